-- `order` is a total order, and tells any two values apart.
use Rattle.std.proofs.Common.{◌≡◌, ℕ, List, Option, None, Some, zero, suc, max, Ordering, refl, rules, arith, ap, ◌∙◌, sym}
use Rattle.std.specs.Cmp.{IsTotalOrder, bool_cmp_total}
use Rattle.std.specs.Cmp.Rules.{comparing}
use Rattle.std.specs.Ordering.{ordering_reverse, is_eq}
use Rattle.std.proofs.lemmas.Map.Text.{is_eq-slice_cmp}
use Rattle.std.proofs.lemmas.Cmp.{then_total, on_total, lists_total, nat_cmp_total, int_cmp_total, nat_list_cmp_total}
use Rattle.ion_model.specs.Names.{Value, depth, field_cmp, fields, items, layer_cmp, order, order_to, out-Payload, scalar, scalar_cmp, symbol_cmp, symbol_same, value_cmp}
use Rattle.ion_atoms.specs.laws.OrderTotal.{decimal_cmp-total, timestamp_cmp-total}
use Rattle.ion_model.specs.laws.Order.{order-agrees}

-- the order of symbols has no ties but those of the same symbols
pub symbol_ties : (s t : Option (List ℕ)) → symbol_same s t ≡ is_eq (symbol_cmp s t)
symbol_ties None None = refl
symbol_ties (Some s) (Some t) = sym (is_eq-slice_cmp s t)
symbol_ties _ _ = refl

-- the order of symbols is total
pub symbol_cmp-total : IsTotalOrder symbol_cmp
symbol_cmp-total = search (comparing, rules)

-- the order of scalars is total
pub scalar_cmp-total : IsTotalOrder scalar_cmp
scalar_cmp-total =
    then_total (on_total (λ s. s.kind) nat_cmp_total) (then_total (on_total (λ s. s.full) bool_cmp_total) (then_total (on_total (λ s. s.truth) bool_cmp_total)
    (then_total (on_total (λ s. s.int) int_cmp_total) (then_total (on_total (λ s. s.decimal) decimal_cmp-total)
    (then_total (on_total (λ s. s.timestamp) timestamp_cmp-total)
    (then_total (on_total (λ s. s.symbol) symbol_cmp-total) (on_total (λ s. s.text) nat_list_cmp_total)))))))

-- the order of fields is total, where that of their values is
pub field_cmp-total : (R : Value → Value → Ordering) → IsTotalOrder R → IsTotalOrder (field_cmp R)
field_cmp-total R o = then_total (on_total (λ f. f.name) symbol_cmp-total) (on_total (λ f. f.value) o)

-- the order of payloads is total, where that of the values inside is
pub layer_cmp-total : (R : Value → Value → Ordering) → IsTotalOrder R → IsTotalOrder (layer_cmp R)
layer_cmp-total R o = then_total (on_total scalar scalar_cmp-total)
    (then_total (on_total items (lists_total o)) (on_total fields (lists_total (field_cmp-total R o))))

value_cmp-total : (R : Value → Value → Ordering) → IsTotalOrder R → IsTotalOrder (value_cmp R)
value_cmp-total R o = then_total (on_total (λ v. out-Payload v.payload) (layer_cmp-total R o)) (on_total (λ v. v.annotations) (lists_total symbol_cmp-total))

order_to-total : (n : ℕ) → IsTotalOrder (order_to n)
order_to-total zero = record { antisymm = λ v w. refl; trans = λ u v w h k. h; congr = λ u v w h. refl }
order_to-total (suc n) = value_cmp-total (order_to n) (order_to-total n)

-- the order of values is total
pub order-total : IsTotalOrder order
order-total = record {
  antisymm = λ v w.
      let n = suc (max (depth v) (depth w)) in
      sym ((order-agrees n).at v w (omega arith) (omega arith)) ∙ (order_to-total n).antisymm v w
      ∙ ap ordering_reverse ((order-agrees n).at w v (omega arith) (omega arith));
  trans = λ u v w h k.
      let n = suc (max (depth u) (max (depth v) (depth w))) in
      sym ((order-agrees n).at u w (omega arith) (omega arith))
      ∙ (order_to-total n).trans u v w ((order-agrees n).at u v (omega arith) (omega arith) ∙ h) ((order-agrees n).at v w (omega arith) (omega arith) ∙ k);
  congr = λ u v w h.
      let n = suc (max (depth u) (max (depth v) (depth w))) in
      sym ((order-agrees n).at u w (omega arith) (omega arith))
      ∙ (order_to-total n).congr u v w ((order-agrees n).at u v (omega arith) (omega arith) ∙ h)
      ∙ (order-agrees n).at v w (omega arith) (omega arith);
}
