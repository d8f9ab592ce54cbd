use Rattle.ion_atoms.specs.laws.Calendar.{number_from_1970}
use Rattle.ion_atoms.proofs.time_laws.as_jiff.Goals as goal

pub returns : goal.returns
returns c = λ d e h is. number_from_1970 d h e is
