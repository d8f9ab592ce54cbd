use Rattle.ion_model.proofs.Replacing.{same-reordered}
use Rattle.ion_model.proofs.laws.reordering.Goals as goal

pub returns : goal.returns
returns c = same-reordered
