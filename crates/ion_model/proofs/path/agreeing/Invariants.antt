use Rattle.std.proofs.Common.{◌≡◌, ◌≤◌, length, take, true}
use lib.Pointwise.{pointwise}
use Rattle.ion_model.specs.Names.{same}
use Rattle.ion_model.proofs.path.agreeing.Given as goal

abbrev pub invariant-loop-i : goal.invariant-loop-i
invariant-loop-i l = (l.i ≤ length l.ws) × (pointwise same (take l.i l.vs) (take l.i l.ws) ≡ true)
