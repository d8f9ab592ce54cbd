use Rattle.ion_tokens.proofs.foreseen.OneBegun.{one_begun}
use Rattle.ion_tokens.proofs.laws.one_begun.Goals as goal

pub returns : goal.returns
returns c = one_begun
