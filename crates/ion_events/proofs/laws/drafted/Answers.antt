use Rattle.ion_events.specs.laws.Drawn.{drafted}
use Rattle.ion_events.proofs.laws.drafted.Goals as goal

pub returns : goal.returns
returns c = drafted
