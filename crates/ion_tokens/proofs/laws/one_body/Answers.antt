use Rattle.ion_tokens.proofs.runs.Cutting.{one_body}
use Rattle.ion_tokens.proofs.laws.one_body.Goals as goal

pub returns : goal.returns
returns c = one_body
