-- Two normal forms that are the same tie in the order, and what ties is the same.
use Rattle.std.proofs.Common.{◌≡◌, ℕ, ◌≤◌, ◌<◌, zero, suc, max, List, [], ◌∷◌, map, length, get_or, true, Equal, refl, arith, ap, ◌∙◌, sym}
use Rattle.std.specs.Cmp.Lexicographic.{slice_cmp}
use Rattle.std.specs.Ordering.{is_eq}
use lib.Pointwise.{pointwise}
use Rattle.ion_model.specs.Names.{AllFieldsNormal, AreNormalOf, Field, FieldsInOrder, IsNormal, Layer, Value, depth, field_cmp, field_same, fields, fields_same, greatest, items, layer_cmp, layer_same, order, order_to, out-Payload, same, same_to, scalar, scalar_cmp, scalar_same, symbol_cmp, symbol_same, value_same}
use Rattle.ion_atoms.specs.laws.Tests.{both, first, same_bool, second}
use Rattle.ion_atoms.specs.laws.Ties.{then_first, then_second, then_tie, tie_from_is_eq}
use Rattle.ion_model.specs.laws.Counts.{alike_from, counts_from}
use Rattle.ion_model.specs.laws.Equivalence.{field_same-equiv, fields_same-equiv, same-equiv, same_to-equiv}
use Rattle.ion_model.specs.laws.Measures.{depth-out}
use Rattle.ion_model.specs.laws.Order.{order-agrees, order-is}
use Rattle.ion_model.specs.laws.OrderTotal.{field_cmp-total, order-total}
use Rattle.ion_model.specs.laws.Parts.{pointwise_back, pointwise_tie, scalar_back, scalar_tie, symbol_back, symbol_tie}
use Rattle.ion_model.specs.laws.Same.{fields-deep, fields_deep, items-deep, items_deep, same-agrees, same-is}
use Rattle.ion_model.proofs.NormalLaws.{layer_from, pointwise_counts}
use Rattle.ion_model.proofs.NormalUnique.{tie}

-- what ties as far as n levels show is the same so far
same_to-from : (n : ℕ) (v w : Value) → order_to n v w ≡ Equal → same_to n v w ≡ true
same_to-from zero v w h = refl
same_to-from (suc n) v w h =
    let a : Layer = out-Payload v.payload in
    let b : Layer = out-Payload w.payload in
    let R = order_to n in
    let l = then_first (layer_cmp R a b) _ h in
    let k = then_second (scalar_cmp (scalar a) (scalar b)) _ l in
    let field_back = λ (f g : Field) (e : field_cmp R f g ≡ Equal). both _ _ (symbol_back f.name g.name (then_first (symbol_cmp f.name g.name) _ e))
    (same_to-from n f.value g.value (then_second (symbol_cmp f.name g.name) _ e)) in
    let annotations_same : pointwise symbol_same v.annotations w.annotations ≡ true =
    pointwise_back symbol_same symbol_cmp symbol_back v.annotations w.annotations (then_second (layer_cmp R a b) _ h) in
    let scalars : scalar_same (scalar a) (scalar b) ≡ true = scalar_back (scalar a) (scalar b) (then_first (scalar_cmp (scalar a) (scalar b)) _ l) in
    let items_same : pointwise (same_to n) (items a) (items b) ≡ true =
    pointwise_back (same_to n) R (same_to-from n) (items a) (items b) (then_first (slice_cmp R (items a) (items b)) _ k) in
    let rows : pointwise (field_same (same_to n)) (fields a) (fields b) ≡ true =
    pointwise_back (field_same (same_to n)) (field_cmp R) field_back (fields a) (fields b) (then_second (slice_cmp R (items a) (items b)) _ k) in
    let fields_are : fields_same (same_to n) (fields a) (fields b) ≡ true =
    alike_from (field_same (same_to n)) (fields a) (fields b)
    (pointwise_counts (field_same (same_to n)) (field_same-equiv (same_to n) (same_to-equiv n)) (fields a) (fields b) rows) in
    both _ _ annotations_same (both _ _ scalars (both _ _ items_same fields_are))

-- values that tie in the order are equivalent
pub same-from_order : (v w : Value) → order v w ≡ Equal → same v w ≡ true
same-from_order v w h =
    let n = suc (max (depth v) (depth w)) in
    sym ((same-agrees n).at v w (omega arith) (omega arith)) ∙ same_to-from n v w ((order-agrees n).at v w (omega arith) (omega arith) ∙ h)

-- fields that tie in the order are the same
pub field_back : (f g : Field) → field_cmp order f g ≡ Equal → field_same same f g ≡ true
field_back f g e = both _ _ (symbol_back f.name g.name (then_first _ _ e)) (same-from_order f.value g.value (then_second _ _ e))

get-greatest : {A : Type 0} (f : A → ℕ) (xs : List A) (i : ℕ) (d : A) → i < length xs → f (get_or xs i d) ≤ greatest (map f xs)
get-greatest f [] i d h = absurd (omega arith)
get-greatest f (y ∷ ys) zero d h = omega arith
get-greatest f (y ∷ ys) (suc i) d h = omega (arith, get-greatest f ys i d (omega arith))

-- normal forms that are the same tie
ties_to : (n : ℕ) (v w : Value) → depth v < n → depth w < n → IsNormal v → IsNormal w → same v w ≡ true → order v w ≡ Equal
ties_to zero v w p q nv nw h = absurd (omega arith)
ties_to (suc n) v w p q nv nw h =
    let a : Layer = out-Payload v.payload in
    let b : Layer = out-Payload w.payload in
    let la = layer_from v nv in
    let lb = layer_from w nw in
    let ia : items_deep (items a) ≤ n = omega (arith, depth-out v, items-deep a) in
    let ib : items_deep (items b) ≤ n = omega (arith, depth-out w, items-deep b) in
    let fa : fields_deep (fields a) ≤ n = omega (arith, depth-out v, fields-deep a) in
    let fb : fields_deep (fields b) ≤ n = omega (arith, depth-out w, fields-deep b) in
    let s : value_same same v w ≡ true = sym (same-is v w) ∙ h in
    let sl : layer_same same a b ≡ true = second (pointwise symbol_same v.annotations w.annotations) _ s in
    let si = second (scalar_same (scalar a) (scalar b)) _ sl in
    let items_tie : slice_cmp order (items a) (items b) ≡ Equal =
    pointwise_tie same order (items a) (items b)
    (λ k d lx ly e. ties_to n (get_or (items a) k d) (get_or (items b) k d) (omega (arith, ia, get-greatest (λ x. suc (depth x)) (items a) k d lx))
    (omega (arith, ib, get-greatest (λ x. suc (depth x)) (items b) k d ly)) (la.0 k d lx) (lb.0 k d ly) e)
    (first (pointwise same (items a) (items b)) _ si) in
    let fields_tie : slice_cmp (field_cmp order) (fields a) (fields b) ≡ Equal =
    tie (field_same same) (field_same-equiv same same-equiv) (field_cmp order) (field_cmp-total order order-total) (fields a) (fields b) la.2 lb.2
    (record {
      from = λ i j d lx ly e. then_tie _ _ (symbol_tie (get_or (fields a) i d).name (get_or (fields b) j d).name
          (first (symbol_same (get_or (fields a) i d).name (get_or (fields b) j d).name) _ e))
          (ties_to n (get_or (fields a) i d).value (get_or (fields b) j d).value (omega (arith, fa, get-greatest (λ f. suc (depth f.value)) (fields a) i d lx))
          (omega (arith, fb, get-greatest (λ f. suc (depth f.value)) (fields b) j d ly)) (la.1 i d lx) (lb.1 j d ly)
          (second (symbol_same (get_or (fields a) i d).name (get_or (fields b) j d).name) _ e));
      back = λ i j d lx ly e. both _ _ (symbol_back (get_or (fields a) i d).name (get_or (fields b) j d).name
          (then_first (symbol_cmp (get_or (fields a) i d).name (get_or (fields b) j d).name) _ e))
          (same-from_order (get_or (fields a) i d).value (get_or (fields b) j d).value
          (then_second (symbol_cmp (get_or (fields a) i d).name (get_or (fields b) j d).name) _ e));
    })
    (counts_from (field_same same) (field_same-equiv same same-equiv) (fields a) (fields b) (second (pointwise same (items a) (items b)) _ si)) in
    order-is v w
    ∙ then_tie _ _ (then_tie _ _ (scalar_tie (scalar a) (scalar b) (first (scalar_same (scalar a) (scalar b)) _ sl)) (then_tie _ _ items_tie fields_tie))
    (pointwise_tie symbol_same symbol_cmp v.annotations w.annotations (λ k d lx ly e. symbol_tie (get_or v.annotations k d) (get_or w.annotations k d) e)
    (first (pointwise symbol_same v.annotations w.annotations) _ s))

-- normal forms that are equivalent tie in the order
pub order-from_same : (v w : Value) → IsNormal v → IsNormal w → same v w ≡ true → order v w ≡ Equal
order-from_same v w = ties_to (suc (max (depth v) (depth w))) v w (omega arith) (omega arith)

-- the fields of two structs, of which the values are in normal form, and which are in order
pub fields-order_from_same : (fs gs : List Field) → AllFieldsNormal fs → AllFieldsNormal gs → FieldsInOrder fs → FieldsInOrder gs
    → fields_same same fs gs ≡ true → slice_cmp (field_cmp order) fs gs ≡ Equal
fields-order_from_same fs gs nf ng uf ug h =
    tie (field_same same) (field_same-equiv same same-equiv) (field_cmp order) (field_cmp-total order order-total) fs gs uf ug
    (record {
      from = λ i j d lx ly e. then_tie _ _ (symbol_tie (get_or fs i d).name (get_or gs j d).name
          (first (symbol_same (get_or fs i d).name (get_or gs j d).name) _ e))
          (order-from_same (get_or fs i d).value (get_or gs j d).value (nf i d lx) (ng j d ly)
          (second (symbol_same (get_or fs i d).name (get_or gs j d).name) _ e));
      back = λ i j d lx ly e. field_back (get_or fs i d) (get_or gs j d) e;
    })
    (counts_from (field_same same) (field_same-equiv same same-equiv) fs gs h)

pub fields-same_from_order : (fs gs : List Field) → slice_cmp (field_cmp order) fs gs ≡ Equal → fields_same same fs gs ≡ true
fields-same_from_order fs gs h =
    alike_from (field_same same) fs gs (pointwise_counts (field_same same) (field_same-equiv same same-equiv) fs gs
    (pointwise_back (field_same same) (field_cmp order) field_back fs gs h))

-- what the order of two structs' fields in normal form tells
pub tied-fields : (fs gs l r : List Field) → AreNormalOf l fs → AreNormalOf r gs → is_eq (slice_cmp (field_cmp order) l r) ≡ fields_same same fs gs
tied-fields fs gs l r nl nr =
    let e = fields_same-equiv same same-equiv in
    let from : fields_same same l r ≡ fields_same same fs gs = e.congr l fs r nl.same ∙ e.symm fs r ∙ e.congr r gs fs nr.same ∙ e.symm gs fs in
    same_bool _ _ (λ h. sym from ∙ fields-same_from_order l r (tie_from_is_eq _ h))
    (λ h. ap is_eq (fields-order_from_same l r nl.inner nr.inner nl.ordered nr.ordered (from ∙ h)))
