use Rattle.ion_scalar.specs.binary.laws.Decimal.{decimal_answers}
use Rattle.ion_scalar.proofs.laws.decimal_answers.Goals as goal

pub returns : goal.returns
returns c = decimal_answers
