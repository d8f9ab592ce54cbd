use Rattle.ion_model.proofs.ByKind.{same_by_kind}
use Rattle.ion_model.proofs.laws.equivalent_by_kind.Goals as goal

pub returns : goal.returns
returns c = same_by_kind
