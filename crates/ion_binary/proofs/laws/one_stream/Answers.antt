use Rattle.ion_binary.specs.laws.reading.Promises.{one_stream}
use Rattle.ion_binary.proofs.laws.one_stream.Goals as goal

pub returns : goal.returns
returns c = one_stream
