use Rattle.std.proofs.Common.{arith}
use Rattle.ion_visiting.specs.Names.{no_values}
use Rattle.ion_visiting.specs.laws.Counted.{value_uncounted, values_counted}
use Rattle.ion_visiting.proofs.laws.counted.Goals as goal

pub returns-clause-value : goal.returns-clause-value
returns-clause-value c = value_uncounted

pub returns-clause-values : goal.returns-clause-values
returns-clause-values c = λ vs b k. omega (arith, values_counted vs no_values b (omega arith) k)
