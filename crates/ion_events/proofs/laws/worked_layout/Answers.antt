use Rattle.ion_events.specs.laws.Worked.{worked}
use Rattle.ion_events.proofs.laws.worked_layout.Goals as goal

pub returns : goal.returns
returns c = worked
