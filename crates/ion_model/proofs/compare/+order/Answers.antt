use Rattle.std.proofs.Common.{◌∙◌, Equal, sym, arith, rules}
use Rattle.std.specs.Ordering.{ordering_then}
use Rattle.ion_model.specs.Names.{field_cmp, order, out-Payload, outs-Timestamp, timestamp_cmp}
use Rattle.ion_model.specs.laws.Order.{order-is, prefix_first}
use Rattle.ion_model.proofs.Heads.{heads_decide, then_equal}
use Rattle.ion_model.proofs.compare.+order.Goals as goal

pub order_fields-returns-then-a-b : goal.order_fields-returns-then-a-b
order_fields-returns-then-a-b t c = prefix_first (field_cmp order) _ _ _ c.loop-i-test.false c.loop-i.auto.i-end c.if-a-b.true ∙ c.loop-i.invariant.1

pub order_items-returns-then-a-b : goal.order_items-returns-then-a-b
order_items-returns-then-a-b t c = prefix_first order _ _ _ c.loop-i-test.false c.loop-i.auto.i-end c.if-a-b.true ∙ c.loop-i.invariant.1

pub order_value-returns-in-Equal : goal.order_value-returns-in-Equal
order_value-returns-in-Equal t c = rw (order-is c.args.a.now c.args.b.now) (grind arith)

pub order_value-returns-in_default : goal.order_value-returns-in_default
order_value-returns-in_default t c = rw (order-is c.args.a.now c.args.b.now) (grind arith)

pub order_payload-returns-in_default : goal.order_payload-returns-in_default
order_payload-returns-in_default t c =
    c.order_heads.ensures ∙ heads_decide order (out-Payload c.args.a.now) (out-Payload c.args.b.now) (search rules)

pub order_payload-returns-in-Timestamp-Timestamp : goal.order_payload-returns-in-Timestamp-Timestamp
order_payload-returns-in-Timestamp-Timestamp t c =
    let arm = c.in-Timestamp-Timestamp in
    rw (arm.is-0, outs-Timestamp arm.s, arm.is-1, outs-Timestamp arm.t)
    (c.order-in-Timestamp-Timestamp.ensures ∙ sym (then_equal (ordering_then (timestamp_cmp arm.s arm.t) Equal) ∙ then_equal (timestamp_cmp arm.s arm.t)))
