use Rattle.std.proofs.Common.{rules}
use Rattle.ion_model.specs.laws.Measures.{depth-out}
use Rattle.ion_model.proofs.measures.+depth.Goals as goal

pub value_depth-returns-in_default : goal.value_depth-returns-in_default
value_depth-returns-in_default t c = rw (depth-out c.args.value.now) (search rules)
