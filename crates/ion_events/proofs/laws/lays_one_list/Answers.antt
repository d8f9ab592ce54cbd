use Rattle.ion_events.specs.laws.OneList.{lays_one_list}
use Rattle.ion_events.proofs.laws.lays_one_list.Goals as goal

pub returns : goal.returns
returns c = lays_one_list
