use Rattle.ion_text.specs.Names.{grows}
use Rattle.ion_text.proofs.laws.reading_grows.Goals as goal

pub returns : goal.returns
returns c = grows
