use Rattle.ion_visiting.specs.laws.Outlined.{value_outlined}
use Rattle.ion_visiting.proofs.laws.outlined.Goals as goal

pub returns : goal.returns
returns c = value_outlined
