use Rattle.std.proofs.Common.{sym, ◌∙◌}
use Rattle.ion_model.specs.laws.Equivalence.{same-equiv}
use Rattle.ion_model.proofs.laws.equivalence.Goals as goal

pub returns-clause-reflexive : goal.returns-clause-reflexive
returns-clause-reflexive c = same-equiv.refl

pub returns-clause-symmetric : goal.returns-clause-symmetric
returns-clause-symmetric c v w h = sym (same-equiv.symm v w) ∙ h

pub returns-clause-transitive : goal.returns-clause-transitive
returns-clause-transitive c u v w h k = same-equiv.congr u v w h ∙ k
