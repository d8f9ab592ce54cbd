use Rattle.ion_text.specs.laws.reading.Stops.{decided}
use Rattle.ion_text.proofs.laws.first_refused.Goals as goal

pub returns : goal.returns
returns c = decided
