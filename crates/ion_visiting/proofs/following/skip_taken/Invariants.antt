use Rattle.ion_visiting.specs.Following.{Skips}
use Rattle.ion_visiting.proofs.following.skip_taken.Given as goal

abbrev pub invariant-loop : goal.invariant-loop
invariant-loop l = Skips l.tape l.fn.frame.free l.fn.frame.taken l.free l.taken
