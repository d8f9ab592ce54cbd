use Rattle.ion_scalar.specs.binary.laws.VarInt.{var_int_read}
use Rattle.ion_scalar.proofs.laws.var_int_is_read.Goals as goal

pub returns : goal.returns
returns c = var_int_read
