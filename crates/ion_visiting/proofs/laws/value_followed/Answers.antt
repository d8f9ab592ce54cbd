use Rattle.ion_visiting.proofs.Followed.{followed}
use Rattle.ion_visiting.proofs.laws.value_followed.Goals as goal

pub returns : goal.returns
returns c = followed
