use Rattle.std.proofs.Common.{rules}
use Rattle.ion_streams.proofs.Steps.{within_begun}
use Rattle.ion.proofs.one_by_one.values_by.Goals as goal

pub returns-clause-begun : goal.returns-clause-begun
returns-clause-begun g c = search (rules, within_begun)
