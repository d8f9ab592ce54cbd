use Rattle.ion_text.specs.laws.reading.Stops.{no_tables}
use Rattle.ion_text.proofs.laws.reading_gives_no_table.Goals as goal

pub returns : goal.returns
returns c = no_tables
