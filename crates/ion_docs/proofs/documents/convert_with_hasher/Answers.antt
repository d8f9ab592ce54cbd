use Rattle.std.proofs.Common.{rules, ◌≡◌, IfOk}
use Rattle.ion_docs.specs.Names.{WritesKept, documents, encoding_of}
use Rattle.ion_docs.specs.laws.Conversion.{keeps_if}
use Rattle.ion_docs.proofs.documents.convert_with_hasher.Goals as goal

pub returns-in-Ok-clause-same : goal.returns-in-Ok-clause-same
returns-in-Ok-clause-same g c =
    let kept : IfOk c.convert_items.result (WritesKept g.R.Inlet g.W.Outlet (encoding_of c.args.target) (documents c.args.catalog.now c.args.limits)
    c.args.reader.now c.convert_items.new.reader c.args.writer.now c.convert_items.new.writer) =
    rw (c.in-Binary.is, ← c.unread-items.ensures.catalog, ← c.unread-items.ensures.limits) c.convert_items.ensures.kept in
    keeps_if g.R.Inlet g.W.Outlet c.args.catalog.now c.args.limits c.args.reader.now c.convert_items.new.reader c.args.writer.now c.convert_items.new.writer
    c.args.target c.convert_items.result kept

pub returns-in-Ok-clause-converted : goal.returns-in-Ok-clause-converted
returns-in-Ok-clause-converted g c =
    rw (c.in-Binary.is, ← c.unread-items.ensures.catalog, ← c.unread-items.ensures.limits) c.convert_items.ensures.converted

pub returns-in-Text-clause-same : goal.returns-in-Text-clause-same
returns-in-Text-clause-same g c =
    let kept : IfOk c.convert_items-in-Text.result (WritesKept g.R.Inlet g.W.Outlet (encoding_of c.args.target) (documents c.args.catalog.now c.args.limits)
    c.args.reader.now c.convert_items-in-Text.new.reader c.args.writer.now c.convert_items-in-Text.new.writer) =
    rw (c.in-Text.is, ← c.unread-items.ensures.catalog, ← c.unread-items.ensures.limits) c.convert_items-in-Text.ensures.kept in
    keeps_if g.R.Inlet g.W.Outlet c.args.catalog.now c.args.limits c.args.reader.now c.convert_items-in-Text.new.reader c.args.writer.now
    c.convert_items-in-Text.new.writer c.args.target c.convert_items-in-Text.result kept

pub returns-in-Text-clause-converted : goal.returns-in-Text-clause-converted
returns-in-Text-clause-converted g c =
    rw (c.in-Text.is, ← c.unread-items.ensures.catalog, ← c.unread-items.ensures.limits) c.convert_items-in-Text.ensures.converted

pub returns-in-Ok-clause-cause : goal.returns-in-Ok-clause-cause
returns-in-Ok-clause-cause g c =
    let asked : c.reads-reads.result ≡ c.args.limits.reads = search rules in
    let few : c.reads-reads.result ≡ c.unread-items.result.walk.limits.reads = rw c.unread-items.ensures.limits asked in
    let cause = rw few at c.convert_items.ensures.cause in
    rw (c.in-Binary.is, ← c.unread-items.ensures.catalog, ← c.unread-items.ensures.limits) cause

pub returns-in-Text-clause-cause : goal.returns-in-Text-clause-cause
returns-in-Text-clause-cause g c =
    let asked : c.reads-reads.result ≡ c.args.limits.reads = search rules in
    let few : c.reads-reads.result ≡ c.unread-items.result.walk.limits.reads = rw c.unread-items.ensures.limits asked in
    let cause = rw few at c.convert_items-in-Text.ensures.cause in
    rw (c.in-Text.is, ← c.unread-items.ensures.catalog, ← c.unread-items.ensures.limits) cause

pub returns-in-Ok-clause-at_once : goal.returns-in-Ok-clause-at_once
returns-in-Ok-clause-at_once g c = rw (← c.unread-items.ensures.catalog, ← c.unread-items.ensures.limits) c.convert_items.ensures.at_once

pub returns-in-Text-clause-at_once : goal.returns-in-Text-clause-at_once
returns-in-Text-clause-at_once g c = rw (← c.unread-items.ensures.catalog, ← c.unread-items.ensures.limits) c.convert_items-in-Text.ensures.at_once
