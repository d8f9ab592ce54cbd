use Rattle.ion_model.specs.laws.Measures.{depth-out, nodes-out}
use Rattle.ion_model.proofs.laws.measures_by_level.Goals as goal

pub returns-clause-depth : goal.returns-clause-depth
returns-clause-depth c = depth-out

pub returns-clause-nodes : goal.returns-clause-nodes
returns-clause-nodes c = nodes-out
