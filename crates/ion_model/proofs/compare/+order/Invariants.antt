use Rattle.std.proofs.Common.{◌≡◌, ◌≤◌, length, drop}
use Rattle.std.specs.Cmp.Lexicographic.{slice_cmp}
use Rattle.ion_model.specs.Names.{field_cmp, order}
use Rattle.ion_model.proofs.compare.+order.Given as goal

abbrev pub invariant-order_items-loop-i : goal.invariant-order_items-loop-i
invariant-order_items-loop-i l = (l.i ≤ length l.b) × (slice_cmp order (drop l.i l.a) (drop l.i l.b) ≡ slice_cmp order l.a l.b)

abbrev pub invariant-order_fields-loop-i : goal.invariant-order_fields-loop-i
invariant-order_fields-loop-i l = (l.i ≤ length l.b) × (slice_cmp (field_cmp order) (drop l.i l.a) (drop l.i l.b) ≡ slice_cmp (field_cmp order) l.a l.b)
