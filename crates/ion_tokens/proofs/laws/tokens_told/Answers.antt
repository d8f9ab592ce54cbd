use Rattle.ion_tokens.proofs.histories.Stepped.{begins_told}
use Rattle.ion_tokens.proofs.laws.tokens_told.Goals as goal

pub returns : goal.returns
returns c = begins_told
