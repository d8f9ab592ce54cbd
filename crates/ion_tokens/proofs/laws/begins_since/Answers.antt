use Rattle.ion_tokens.proofs.foreseen.Since.{begins_since}
use Rattle.ion_tokens.proofs.laws.begins_since.Goals as goal

pub returns : goal.returns
returns c = begins_since
