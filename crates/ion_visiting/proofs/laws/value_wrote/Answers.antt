use Rattle.ion_visiting.proofs.Taped.{value_wrote, value_tells}
use Rattle.ion_visiting.proofs.laws.value_wrote.Goals as goal

pub returns-clause-holds : goal.returns-clause-holds
returns-clause-holds c = value_wrote

pub returns-clause-tells : goal.returns-clause-tells
returns-clause-tells c = value_tells
