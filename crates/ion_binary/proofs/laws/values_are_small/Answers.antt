use Rattle.ion_binary.specs.laws.reading.Small.{binary_nodes}
use Rattle.ion_binary.proofs.laws.values_are_small.Goals as goal

pub returns : goal.returns
returns c = binary_nodes
