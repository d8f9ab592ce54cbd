use Rattle.ion_scalar.specs.binary.laws.Shown.{timestamp_read}
use Rattle.ion_scalar.proofs.laws.timestamp_is_read.Goals as goal

pub returns : goal.returns
returns c = timestamp_read
