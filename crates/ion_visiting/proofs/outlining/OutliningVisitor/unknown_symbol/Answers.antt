use Rattle.std.proofs.Common.{None}
use Rattle.ion_visiting.specs.Names.{outs-Symbol}
use Rattle.ion_visiting.proofs.outlining.OutliningVisitor.unknown_symbol.Goals as goal

pub returns-clause-outlined : goal.returns-clause-outlined
returns-clause-outlined c = rw (outs-Symbol None) c.count_value.ensures
