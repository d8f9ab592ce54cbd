use Rattle.ion_tokens.proofs.histories.Stepped.{all_told}
use Rattle.ion_tokens.proofs.laws.told_all.Goals as goal

pub returns : goal.returns
returns c = all_told
