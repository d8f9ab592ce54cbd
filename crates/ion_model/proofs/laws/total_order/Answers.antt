use Rattle.std.proofs.Common.{◌∙◌, ap, sym}
use Rattle.std.proofs.lemmas.Cmp.{tied_itself}
use Rattle.ion_model.specs.Names.{order}
use Rattle.ion_model.specs.laws.OrderEqual.{equal_from_order}
use Rattle.ion_model.specs.laws.OrderTotal.{order-total}
use Rattle.ion_model.proofs.laws.total_order.Goals as goal

pub returns-clause-total : goal.returns-clause-total
returns-clause-total c = order-total

pub returns-clause-apart : goal.returns-clause-apart
returns-clause-apart c v w = (equal_from_order v w, (λ e. ap (order v) (sym e) ∙ tied_itself order-total v))
