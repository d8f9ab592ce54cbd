use Rattle.std.proofs.Common.{rules, ◌≢◌, ◌∙◌, sym}
use Rattle.ion_streams.specs.Names.{Reason, format_of}
use Rattle.ion_streams.proofs.Endings.{refused_late}
use Rattle.ion_streams.proofs.Telling.{ended_by}
use Rattle.ion_streams.proofs.piece_reader.walking.last_by.Goals as goal

pub returns-in-Ok-true-clause-ends : goal.returns-in-Ok-true-clause-ends
returns-in-Ok-true-clause-ends g c = λ u given es h.
    let catalog = g.I.Items.catalog c.args.source.items in
    let limits = g.I.Items.limits c.args.source.items in
    let was = g.met.I.Items.has_told c.args.source.items u given es h in
    ended_by g.V.Visitor.takes (format_of g.I.Items catalog limits) u given es c.in-Ok-true.field-0 c.args.source.used c.args.visitor.now
    c.finish_by.new.visitor c.in-Ok-true.field-0-test (sym was.counted ∙ c.requires.counted) (was.given_so_far c.requires.awaited)
    (λ s. (g.met.I.Items.exact catalog limits u s).0) (c.in-Ok-true.ensures.ends u given es h)

pub returns-clause-ends : goal.returns-clause-ends
returns-clause-ends g c = λ u given es h.
    let other : c.in-Err.refusal.reason ≢ Reason.Memory = search rules in
    let catalog = g.I.Items.catalog c.args.source.items in
    let limits = g.I.Items.limits c.args.source.items in
    let was = g.met.I.Items.has_told c.args.source.items u given es h in
    refused_late (format_of g.I.Items catalog limits) (g.met.I.Items.reasons catalog limits) u given c.in-Err.refusal (g.I.Items.open_after limits)
    (was.given_so_far c.requires.awaited) (c.in-Err.ensures.ends u given es h other)
    (g.met.I.Items.refused catalog limits u) (g.met.I.Items.shown catalog limits u) (g.met.I.Items.unfinished catalog limits u c.in-Err.refusal)
    (λ s. (g.met.I.Items.exact catalog limits u s).1)
