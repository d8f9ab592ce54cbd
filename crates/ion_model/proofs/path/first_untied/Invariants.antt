use Rattle.std.proofs.Common.{◌≡◌, ◌≤◌, length, drop}
use Rattle.ion_model.specs.laws.PartingSteps.{first_untied}
use Rattle.ion_model.proofs.path.first_untied.Given as goal

abbrev pub invariant-loop-i : goal.invariant-loop-i
invariant-loop-i l = (l.i ≤ length l.gs) × (first_untied (drop l.i l.fs) (drop l.i l.gs) ≡ first_untied l.fs l.gs)
