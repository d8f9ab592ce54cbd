use Rattle.ion_scalar.specs.binary.laws.TimestampReasons.{timestamp_answers}
use Rattle.ion_scalar.proofs.laws.timestamp_answers.Goals as goal

pub returns : goal.returns
returns c = timestamp_answers
