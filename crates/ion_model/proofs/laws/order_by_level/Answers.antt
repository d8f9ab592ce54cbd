use Rattle.ion_model.specs.laws.Order.{order-is}
use Rattle.ion_model.proofs.laws.order_by_level.Goals as goal

pub returns : goal.returns
returns c = order-is
