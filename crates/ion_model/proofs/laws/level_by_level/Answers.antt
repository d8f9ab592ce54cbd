use Rattle.ion_model.specs.laws.Same.{same-is}
use Rattle.ion_model.proofs.laws.level_by_level.Goals as goal

pub returns : goal.returns
returns c = same-is
