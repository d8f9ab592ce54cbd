use Rattle.ion_scalar.specs.binary.laws.Shifted.{moved_is, moved_out}
use Rattle.ion_scalar.proofs.laws.moved_by_number.Goals as goal

pub returns-clause-number : goal.returns-clause-number
returns-clause-number c = moved_is

pub returns-clause-years : goal.returns-clause-years
returns-clause-years c = moved_out
