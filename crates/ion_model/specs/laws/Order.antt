-- `order` by one level.
use Rattle.std.proofs.Common.{◌≡◌, ℕ, ◌≤◌, ◌<◌, zero, suc, max, List, [], ◌∷◌, length, drop, Ordering, Less, refl, arith, ap}
use Rattle.std.specs.Cmp.Lexicographic.{slice_cmp}
use Rattle.std.specs.Ordering.{ordering_then}
use Rattle.ion_model.specs.Names.{Field, Layer, Payload-F, Value, depth, field_cmp, fields, items, kind_rank, layer_cmp, layer_depth, layer_kind, order, order_to, out-Payload, scalar, symbol_cmp, value_cmp}
use Rattle.ion_model.specs.laws.Measures.{depth-out}
use Rattle.ion_model.specs.laws.Same.{Agree, fields-deep, fields_deep, items-deep, items_deep}

slice_cmp-agree : (n : ℕ) (R S : Value → Value → Ordering) → Agree n R S → (vs ws : List Value) → items_deep vs ≤ n → items_deep ws ≤ n
    → slice_cmp R vs ws ≡ slice_cmp S vs ws
slice_cmp-agree n R S h (v ∷ vs) (w ∷ ws) p q =
    rw (h.at v w (omega arith) (omega arith), slice_cmp-agree n R S h vs ws (omega arith) (omega arith))
slice_cmp-agree n R S h _ _ p q = refl

fields_cmp-agree : (n : ℕ) (R S : Value → Value → Ordering) → Agree n R S → (fs gs : List Field) → fields_deep fs ≤ n → fields_deep gs ≤ n
    → slice_cmp (field_cmp R) fs gs ≡ slice_cmp (field_cmp S) fs gs
fields_cmp-agree n R S h (f ∷ fs) (g ∷ gs) p q =
    rw (h.at f.value g.value (omega arith) (omega arith), fields_cmp-agree n R S h fs gs (omega arith) (omega arith))
fields_cmp-agree n R S h _ _ p q = refl

layer-agree : (n : ℕ) (R S : Value → Value → Ordering) → Agree n R S → (a b : Layer) → layer_depth a ≤ n → layer_depth b ≤ n → layer_cmp R a b ≡ layer_cmp S a b
layer-agree n R S h a b p q =
    let ia : items_deep (items a) ≤ n = omega (arith, items-deep a) in
    let ib : items_deep (items b) ≤ n = omega (arith, items-deep b) in
    let fa : fields_deep (fields a) ≤ n = omega (arith, fields-deep a) in
    let fb : fields_deep (fields b) ≤ n = omega (arith, fields-deep b) in
    rw (slice_cmp-agree n R S h (items a) (items b) ia ib, fields_cmp-agree n R S h (fields a) (fields b) fa fb)

value-agree : (n : ℕ) (R S : Value → Value → Ordering) → Agree n R S → (v w : Value) → depth v ≤ n → depth w ≤ n → value_cmp R v w ≡ value_cmp S v w
value-agree n R S h v w p q =
    ap (λ o. ordering_then o (slice_cmp symbol_cmp v.annotations w.annotations))
    (layer-agree n R S h (out-Payload v.payload) (out-Payload w.payload) (omega (arith, depth-out v)) (omega (arith, depth-out w)))

stable : (m n k : ℕ) → k ≤ m → k ≤ n → Agree k (order_to m) (order_to n)
stable m n zero p q = record { at = λ v w a b. absurd (omega arith) }
stable (suc m) (suc n) (suc k) p q = record { at = λ v w a b. value-agree k _ _ (stable m n k (omega arith) (omega arith)) v w (omega arith) (omega arith) }
stable _ _ _ p q = absurd (omega arith)

-- the order as far as n levels show is the order, of values less than n deep
pub order-agrees : (n : ℕ) → Agree n (order_to n) order
unfolding order
order-agrees n = record {
  at = λ v w a b. (stable n (suc (max (depth v) (depth w))) (suc (max (depth v) (depth w))) (omega arith) (omega arith)).at v w
      (omega arith) (omega arith);
}

-- the order of two values, by that of the values inside them
pub order-is : (v w : Value) → order v w ≡ value_cmp order v w
unfolding order
order-is v w = value-agree (max (depth v) (depth w)) _ order (order-agrees (max (depth v) (depth w))) v w (omega arith) (omega arith)

-- a proper prefix comes first
pub prefix_first : {A : Type 0} (R : A → A → Ordering) (xs ys : List A) (i : ℕ) → length xs ≤ i → i ≤ length xs → length xs < length ys
    → Less ≡ slice_cmp R (drop i xs) (drop i ys)
prefix_first R [] (y ∷ ys) zero p q h = refl
prefix_first R (x ∷ xs) (y ∷ ys) (suc i) p q h = prefix_first R xs ys i (omega arith) (omega arith) (omega arith)
prefix_first R _ _ _ p q h = absurd (omega arith)

-- the kind of one level, as a number
pub scalar-kind : (a : Layer) → (scalar a).kind ≡ kind_rank (layer_kind a)
scalar-kind (Payload-F.Null x) = refl
scalar-kind _ = refl
