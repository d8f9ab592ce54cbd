use Rattle.std.proofs.Common.{rules}
use Rattle.ion_model.proofs.NormalLaws.{sorted_rows}
use Rattle.ion_model.proofs.normal.sort_rows.Goals as goal

pub returns-clause-ordered : goal.returns-clause-ordered
returns-clause-ordered c = sorted_rows _ _ _ _ c.sort_by.ensures.sorted (λ f a r g h. search rules)
