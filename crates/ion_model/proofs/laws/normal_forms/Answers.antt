use Rattle.ion_model.specs.laws.OrderEqual.{equal_from_order}
use Rattle.ion_model.proofs.NormalSome.{normal_some}
use Rattle.ion_model.proofs.NormalTies.{order-from_same, same-from_order}
use Rattle.ion_model.proofs.laws.normal_forms.Goals as goal

pub returns-clause-some : goal.returns-clause-some
returns-clause-some c v = let n = normal_some v in (n.form, n.normal, n.alike)

pub returns-clause-ties : goal.returns-clause-ties
returns-clause-ties c v w nv nw = (order-from_same v w nv nw, same-from_order v w)

pub returns-clause-one : goal.returns-clause-one
returns-clause-one c v w nv nw h = equal_from_order v w (order-from_same v w nv nw h)
