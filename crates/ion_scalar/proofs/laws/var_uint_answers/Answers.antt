use Rattle.ion_scalar.specs.binary.laws.VarUInt.{var_uint_answers}
use Rattle.ion_scalar.proofs.laws.var_uint_answers.Goals as goal

pub returns : goal.returns
returns c = var_uint_answers
