use Rattle.std.proofs.lemmas.List.{get_or_default}
use Rattle.ion_visiting.specs.Following.{follows}
use Rattle.ion_visiting.specs.Tapes.{told}
use Rattle.ion_visiting.proofs.ToldItems.{entry_next}
use Rattle.ion_visiting.proofs.following.Following.goes_on.Goals as goal

pub loop-entry-preserved : goal.loop-entry-preserved
loop-entry-preserved c = entry_next (follows c.args.tape.now) (told c.args.other.now) c.as_slice-entries.result.now c.loop-entry.entry-index _ _ _ _
    c.loop-entry-test.true (get_or_default _ _ _ _ c.loop-entry-test.true) c.loop-entry.invariant (c.finds_entry.ensures.some c.if-not-finds_entry.false)
    (c.finds_entry.ensures.told c.if-not-finds_entry.false)
