use Rattle.ion_text.specs.laws.showing.ended.AtItsEnd.{at_its_end}
use Rattle.ion_text.proofs.laws.reading_ends_values.Goals as goal

pub returns : goal.returns
returns c = at_its_end
