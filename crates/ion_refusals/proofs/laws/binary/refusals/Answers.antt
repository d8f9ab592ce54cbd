use Rattle.ion_binary.specs.laws.reading.Promises.{ends}
use Rattle.ion_refusals.proofs.refusals.RefusalLaws.{answers, refuses}
use Rattle.ion_refusals.proofs.laws.binary.refusals.Goals as goal

pub returns : goal.returns
returns c = record { answers = answers; refuses = refuses; ends = ends }
