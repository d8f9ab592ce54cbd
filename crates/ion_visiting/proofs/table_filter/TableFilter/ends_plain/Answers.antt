use Rattle.std.proofs.Common.{refl}
use Rattle.ion_visiting.specs.laws.Filters.{no_ends}
use Rattle.ion_visiting.proofs.table_filter.TableFilter.ends_plain.Goals as goal

pub returns-in-No-clause-plain : goal.returns-in-No-clause-plain
returns-in-No-clause-plain c = λ yes v h. no_ends v c.args.self.now h _ c.in-No.is refl refl refl
