use Rattle.std.proofs.Common.{arith}
use Rattle.ion_model.specs.Names.{out-Payload}
use Rattle.ion_model.specs.laws.Order.{scalar-kind}
use Rattle.ion_model.proofs.compare.order_heads.Goals as goal

pub returns : goal.returns
returns c = rw (scalar-kind (out-Payload c.args.a.now), scalar-kind (out-Payload c.args.b.now)) (grind arith)
