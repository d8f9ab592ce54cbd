use Rattle.ion_scalar.specs.binary.laws.VarUInt.{one_var_uint}
use Rattle.ion_scalar.proofs.laws.one_var_uint.Goals as goal

pub returns : goal.returns
returns c = one_var_uint
