use Rattle.ion_text.specs.laws.reading.small.Small.{is_small}
use Rattle.ion_text.proofs.laws.reading_is_small.Goals as goal

pub returns : goal.returns
returns c = is_small
