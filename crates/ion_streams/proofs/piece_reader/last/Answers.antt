use Rattle.std.proofs.Common.{rules, refl, ◌≢◌}
use Rattle.ion_streams.specs.Names.{Reason, format_of}
use Rattle.ion_streams.proofs.Endings.{refused_late}
use Rattle.ion_streams.proofs.piece_reader.last.Goals as goal

pub returns-clause-ends : goal.returns-clause-ends
returns-clause-ends g c = λ u given h.
    let other : c.in-Err.refusal.reason ≢ Reason.Memory = search rules in
    let catalog = g.I.Items.catalog c.args.source.items in
    let limits = g.I.Items.limits c.args.source.items in (
      refl,
      refused_late (format_of g.I.Items catalog limits) (g.met.I.Items.reasons catalog limits) u given c.in-Err.refusal (g.I.Items.open_after limits)
          (g.met.I.Items.given_so_far c.args.source.items u given h c.requires.awaited) (c.in-Err.ensures.ends u given h other)
          (g.met.I.Items.refused catalog limits u) (g.met.I.Items.shown catalog limits u) (g.met.I.Items.unfinished catalog limits u c.in-Err.refusal)
          (λ s. (g.met.I.Items.exact catalog limits u s).1),
    )
