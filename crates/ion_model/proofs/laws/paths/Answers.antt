use Rattle.ion_model.proofs.PartingLaws.{path_differs}
use Rattle.ion_model.proofs.PathEnds.{ends_apart}
use Rattle.ion_model.proofs.PathSome.{path_some}
use Rattle.ion_model.proofs.PartingOne.{path_one}
use Rattle.ion_model.proofs.laws.paths.Goals as goal

pub returns-clause-some : goal.returns-clause-some
returns-clause-some c v w h = let p = path_some v w h in (p.path, p.is)

pub returns-clause-end : goal.returns-clause-end
returns-clause-end c = ends_apart

pub returns-clause-differ : goal.returns-clause-differ
returns-clause-differ c = path_differs

pub returns-clause-one : goal.returns-clause-one
returns-clause-one c = path_one
