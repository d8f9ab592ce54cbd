use Rattle.ion_docs.proofs.Told.{listing_told}
use Rattle.ion_docs.proofs.laws.listing_of_told.Goals as goal

pub returns : goal.returns
returns g c = λ h k first now old new answer shown u only. listing_told g.R.Inlet g.met.R.Inlet.tells_some h k first now u only g.W.Outlet old new answer shown
