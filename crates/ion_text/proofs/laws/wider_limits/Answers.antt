use Rattle.ion_text.specs.laws.reading.Rows.{wider}
use Rattle.ion_text.proofs.laws.wider_limits.Goals as goal

pub returns : goal.returns
returns c = wider
