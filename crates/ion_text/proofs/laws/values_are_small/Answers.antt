use Rattle.ion_text.specs.laws.reading.small.Nodes.{value_nodes}
use Rattle.ion_text.proofs.laws.values_are_small.Goals as goal

pub returns : goal.returns
returns c = value_nodes
