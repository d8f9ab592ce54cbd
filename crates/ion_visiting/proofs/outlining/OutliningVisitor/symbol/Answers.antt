use Rattle.ion_visiting.specs.Names.{outs-Symbol}
use Rattle.ion_visiting.proofs.outlining.OutliningVisitor.symbol.Goals as goal

pub returns-clause-outlined : goal.returns-clause-outlined
returns-clause-outlined c = rw (outs-Symbol c.args._symbol.now) c.count_value.ensures
