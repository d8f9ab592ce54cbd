use Rattle.std.proofs.lemmas.List.{get_or_default}
use Rattle.ion_visiting.specs.Tapes.{told}
use Rattle.ion_visiting.proofs.ToldItems.{entry_next}
use Rattle.ion_visiting.proofs.tape.Tape.tell_entries.Goals as goal

pub loop-entry-preserved : goal.loop-entry-preserved
loop-entry-preserved g c = entry_next g.V.Visitor.takes (told c.args.self.now) c.args.entries.now c.loop-entry.entry-index _ _ _ _
    c.loop-entry-test.true (get_or_default _ _ _ _ c.loop-entry-test.true) c.loop-entry.invariant (c.tell_entry.ensures.some c.if-not-tell_entry.false) (c.tell_entry.ensures.told c.if-not-tell_entry.false)
