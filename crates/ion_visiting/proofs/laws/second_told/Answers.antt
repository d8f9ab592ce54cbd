use Rattle.ion_visiting.proofs.Twins.{second_holds, second_told}
use Rattle.ion_visiting.proofs.laws.second_told.Goals as goal

pub returns-clause-told : goal.returns-clause-told
returns-clause-told c = second_told

pub returns-clause-holds : goal.returns-clause-holds
returns-clause-holds c = second_holds
