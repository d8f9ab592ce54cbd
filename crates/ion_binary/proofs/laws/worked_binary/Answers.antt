use Rattle.ion_binary.specs.laws.writing.Rows.{worked_binary}
use Rattle.ion_binary.proofs.laws.worked_binary.Goals as goal

pub returns : goal.returns
returns c = worked_binary
