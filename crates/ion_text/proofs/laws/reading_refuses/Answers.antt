use Rattle.ion_text.specs.laws.reading.Promises.{has_reasons}
use Rattle.ion_text.specs.laws.reading.Stops.{unfinished}
use Rattle.ion_text.specs.laws.showing.refused.Refusing.{refuses}
use Rattle.ion_text.proofs.laws.reading_refuses.Goals as goal

pub returns : goal.returns
returns c = record {
  whole = refuses;
  unfinished = unfinished;
  reasons = has_reasons;
}
