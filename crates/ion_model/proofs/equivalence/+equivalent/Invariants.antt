use Rattle.std.proofs.Common.{◌≡◌, length, drop}
use lib.Pointwise.{pointwise}
use Rattle.ion_model.specs.Names.{same}
use Rattle.ion_model.proofs.equivalence.+equivalent.Given as goal

abbrev pub invariant-equivalent_items-loop-i : goal.invariant-equivalent_items-loop-i
invariant-equivalent_items-loop-i l = (length l.vs ≡ length l.ws) × (pointwise same (drop l.i l.vs) (drop l.i l.ws) ≡ pointwise same l.vs l.ws)
