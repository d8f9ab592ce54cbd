use Rattle.ion_scalar.specs.text.laws.OneNumber.{one_number, number_no_float}
use Rattle.ion_scalar.proofs.laws.one_number.Goals as goal

pub returns-clause-one : goal.returns-clause-one
returns-clause-one c = one_number

pub returns-clause-float : goal.returns-clause-float
returns-clause-float c = number_no_float
