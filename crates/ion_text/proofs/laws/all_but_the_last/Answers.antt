use Rattle.ion_text.specs.laws.showing.shown.AllButLast.{all_but_the_last}
use Rattle.ion_text.proofs.laws.all_but_the_last.Goals as goal

pub returns : goal.returns
returns c = all_but_the_last
