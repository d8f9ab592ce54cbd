use Rattle.ion_text.specs.laws.reading.Promises.{exact}
use Rattle.ion_text.proofs.laws.reading_is_exact.Goals as goal

pub returns : goal.returns
returns c = exact
