use Rattle.ion_docs.specs.Names.{documents}
use Rattle.ion_docs.proofs.Told.{verdict_told}
use Rattle.ion_docs.proofs.laws.verdict_of_told.Goals as goal

pub returns : goal.returns
returns g c = λ h k. verdict_told g.L.Inlet g.R.Inlet g.met.L.Inlet.tells_some g.met.R.Inlet.tells_some (documents h k) (documents h k)
