use Rattle.ion_visiting.specs.laws.Built.{value_built}
use Rattle.ion_visiting.proofs.laws.built.Goals as goal

pub returns : goal.returns
returns c = value_built
