use Rattle.ion_docs.proofs.Told.{check_told}
use Rattle.ion_docs.proofs.laws.check_of_told.Goals as goal

pub returns : goal.returns
returns g c = λ h k first now answer checked u only. check_told g.R.Inlet g.met.R.Inlet.tells_some h k first now u only answer checked
