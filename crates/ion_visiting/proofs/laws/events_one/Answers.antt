use Rattle.ion_visiting.specs.laws.Built.{events_one}
use Rattle.ion_visiting.proofs.laws.events_one.Goals as goal

pub returns : goal.returns
returns c = events_one
