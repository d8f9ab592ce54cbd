use Rattle.ion_scalar.specs.binary.laws.Descriptor.{table}
use Rattle.ion_scalar.proofs.laws.descriptor_table.Goals as goal

pub returns : goal.returns
returns c = table
