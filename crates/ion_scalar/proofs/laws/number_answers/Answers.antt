use Rattle.ion_scalar.specs.text.Reading.{reads_number}
use Rattle.ion_scalar.proofs.laws.number_answers.Goals as goal

pub returns : goal.returns
returns c = reads_number
