use Rattle.ion_text.specs.laws.showing.shown.Given.{shown}
use Rattle.ion_text.proofs.laws.reading_has_pieces.Goals as goal

pub returns : goal.returns
returns c = record { shown = shown }
