use Rattle.std.proofs.Common.{true, []}
use Rattle.ion_streams.specs.Names.{Reads, ReadsEach, left_of, telling}
use Rattle.ion_streams.proofs.Passes.{ok_by}
use Rattle.ion_streams.proofs.Steps.{gave_so_far, on_err}
use Rattle.ion_streams.proofs.Telling.{led_by, tells_end}
use Rattle.ion_streams.proofs.piece_reader.ReadState.advance_by.Goals as goal

pub returns-in-Ok-Value-clause-tells : goal.returns-in-Ok-Value-clause-tells
returns-in-Ok-Value-clause-tells g c = λ catalog limits first given h.
    let read : ReadsEach g.R.Inlet (telling g.I.Items []) catalog limits first c.args.reader.now c.in-Open.source given = rw c.in-Open.is at h in
    let gave = rw c.in-Ok-Value.field-0-is at (c.in-Ok-Value.ensures.tells catalog limits first given [] read) in
    (gave.0, led_by g.V.Visitor.takes _ _ _ gave.1, gave.2, tt)

pub returns-in-Ok-End-clause-tells : goal.returns-in-Ok-End-clause-tells
returns-in-Ok-End-clause-tells g c =
    ok_by c.end_by.result _ _ (λ found ends. λ catalog limits first given h.
    let read : ReadsEach g.R.Inlet (telling g.I.Items []) catalog limits first c.args.reader.now c.in-Open.source given = rw c.in-Open.is at h in
    let end = rw c.in-Ok-End.field-0-is at (c.in-Ok-End.ensures.tells catalog limits first given [] read) in
    tells_end g.V.Visitor.takes g.R.Inlet g.I.Items catalog limits first c.read_on_by.new.reader c.read_on_by.new.self given
    c.end_by.new.self found c.args.visitor.now c.read_on_by.new.visitor c.end_by.new.visitor (rw c.in-Ok-End.field-0-is at c.in-Ok-End.ensures.ended).empty end ends)
    c.end_by.ensures.ends

pub returns-in-Ok-End-clause-kept : goal.returns-in-Ok-End-clause-kept
returns-in-Ok-End-clause-kept g c =
    on_err c.end_by.result _ (λ catalog limits first s h.
    let read : Reads g.R.Inlet (telling g.I.Items []) catalog limits first c.args.reader.now c.in-Open.source s = rw c.in-Open.is at h in
    let end = rw c.in-Ok-End.field-0-is at (c.in-Ok-End.ensures.tells catalog limits first read.given [] read.each) in (
      end.0,
      gave_so_far g.R.Inlet (telling g.I.Items end.0) catalog limits first c.read_on_by.new.reader c.read_on_by.new.self.items
          (left_of c.read_on_by.new.self) true read.given s read.values end.2,
    ))
