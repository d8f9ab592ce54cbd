use Rattle.std.proofs.Common.{ap, sym, subst, ◌∙◌, arith}
use Rattle.std.specs.List.{All}
use Rattle.std.proofs.lemmas.Grind.{common_steps}
use Rattle.std.proofs.lemmas.List.{take_all}
use Rattle.ion_events.specs.Drafts.{IsSpelled}
use Rattle.ion_events.specs.Names.{entry_of}
use Rattle.ion_events.proofs.Spelled.{more_spelled}
use Rattle.ion_events.proofs.entry.spell.Goals as goal

pub loop-entry-preserved : goal.loop-entry-preserved
loop-entry-preserved c = (
  grind (arith, common_steps),
  more_spelled c.args.entries.now c.loop-entry.entry-index _ c.loop-entry-test.true (ap entry_of (sym c.octets.ensures.octets) ∙ c.octets.ensures.entry)
      c.loop-entry.invariant.1,
)

pub returns-clause-each : goal.returns-clause-each
returns-clause-each c = λ t.
    subst (All IsSpelled) (take_all c.loop-entry.entry-index c.args.entries.now (omega (arith, c.loop-entry-test.false))) c.loop-entry.invariant.1
