use Rattle.ion_model.proofs.NormalLaws.{layer_from, normal_from}
use Rattle.ion_model.proofs.laws.normal_by_level.Goals as goal

pub returns : goal.returns
returns c v = (layer_from v, normal_from v)
