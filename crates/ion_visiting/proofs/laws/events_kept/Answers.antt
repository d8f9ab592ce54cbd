use Rattle.ion_visiting.specs.laws.KeptEvents.{value_kept, values_kept}
use Rattle.ion_visiting.proofs.laws.events_kept.Goals as goal

pub returns-clause-value : goal.returns-clause-value
returns-clause-value c = value_kept

pub returns-clause-values : goal.returns-clause-values
returns-clause-values c = values_kept
