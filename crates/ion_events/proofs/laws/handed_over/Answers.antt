use Rattle.ion_events.specs.laws.HandedOver.{handed_over}
use Rattle.ion_events.proofs.laws.handed_over.Goals as goal

pub returns : goal.returns
returns c = handed_over
