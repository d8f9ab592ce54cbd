use Rattle.ion_scalar.specs.binary.laws.VarUInt.{var_uint_read}
use Rattle.ion_scalar.proofs.laws.var_uint_is_read.Goals as goal

pub returns : goal.returns
returns c = var_uint_read
