use Rattle.std.proofs.Common.{rules}
use Rattle.ion_model.specs.laws.Measures.{nodes-out}
use Rattle.ion_model.proofs.measures.+nodes.Goals as goal

pub value_nodes-returns-in_default : goal.value_nodes-returns-in_default
value_nodes-returns-in_default t c = rw (nodes-out c.args.value.now) (search rules)
