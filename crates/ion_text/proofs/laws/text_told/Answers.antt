use Rattle.ion_spelling.specs.laws.TextTold.{value_told, values_told}
use Rattle.ion_text.proofs.laws.text_told.Goals as goal

pub returns-clause-value : goal.returns-clause-value
returns-clause-value c = value_told

pub returns-clause-values : goal.returns-clause-values
returns-clause-values c = values_told
