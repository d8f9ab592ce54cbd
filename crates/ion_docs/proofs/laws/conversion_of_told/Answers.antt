use Rattle.ion_docs.specs.Names.{encoding_of}
use Rattle.ion_docs.proofs.Told.{conversion_told}
use Rattle.ion_docs.proofs.laws.conversion_of_told.Goals as goal

pub returns : goal.returns
returns g c = λ target h k first now old new answer converted kept u only. conversion_told g.R.Inlet g.met.R.Inlet.tells_some h k first now u only g.W.Outlet
    old new (encoding_of target) answer converted kept
