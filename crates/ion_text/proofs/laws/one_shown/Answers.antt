use Rattle.ion_text.specs.laws.showing.tokens.Once.{one_shown}
use Rattle.ion_text.proofs.laws.one_shown.Goals as goal

pub returns : goal.returns
returns c = one_shown
