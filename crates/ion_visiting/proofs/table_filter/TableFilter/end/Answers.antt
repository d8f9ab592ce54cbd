use Rattle.std.proofs.Common.{refl}
use Rattle.ion_visiting.specs.laws.Filters.{yes_ends, no_ends, unknown_ends, noted_ends}
use Rattle.ion_visiting.proofs.table_filter.TableFilter.end.Goals as goal

pub returns-in-Yes : goal.returns-in-Yes
returns-in-Yes c = λ v h. yes_ends v c.args.self.now h _ _ c.in-Yes.is c.take.ensures.value refl refl c.take.ensures.left

pub returns-in-No : goal.returns-in-No
returns-in-No c = λ v h. no_ends v c.args.self.now h _ c.in-No.is refl refl refl

pub returns-in-Unknown : goal.returns-in-Unknown
returns-in-Unknown c = λ v h. absurd (unknown_ends v c.args.self.now h c.in-Unknown.is)

pub returns-in-Noted : goal.returns-in-Noted
returns-in-Noted c = λ v h. absurd (noted_ends v c.args.self.now h c.in-Noted.is)
