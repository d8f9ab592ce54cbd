use Rattle.ion_scalar.specs.binary.laws.VarInt.{var_int_answers}
use Rattle.ion_scalar.proofs.laws.var_int_answers.Goals as goal

pub returns : goal.returns
returns c = var_int_answers
