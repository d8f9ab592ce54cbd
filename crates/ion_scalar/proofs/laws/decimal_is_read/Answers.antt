use Rattle.ion_scalar.specs.binary.laws.Decimal.{decimal_body_read}
use Rattle.ion_scalar.proofs.laws.decimal_is_read.Goals as goal

pub returns : goal.returns
returns c = decimal_body_read
