use Rattle.ion_docs.proofs.Told.{reads_whole}
use Rattle.ion_docs.proofs.laws.reads_of_told.Goals as goal

pub returns : goal.returns
returns g c = λ reads first now u only made. reads_whole g.R.Inlet g.met.R.Inlet.tells_some reads first now u made only
