-- The order ties no two values.
use Rattle.std.proofs.Common.{◌≡◌, ℕ, ◌≤◌, ◌<◌, zero, suc, max, List, [], ◌∷◌, map, cond, Ordering, Equal, Option, refl, arith, ap, ◌∙◌, sym, eqb}
use Rattle.std.specs.Cmp.Lexicographic.{slice_cmp}
use Rattle.ion_model.specs.Names.{Field, Kind, Layer, Payload, Payload-F, Scalar, Value, depth, field_cmp, fields, greatest, items, kind_rank, order, order_to, out-Payload, roll-out-Payload, scalar, symbol_cmp}
use Rattle.ion_atoms.specs.laws.Ties.{then_first, then_second}
use Rattle.ion_model.specs.declared.value.Payload.TheViews.{roll-Payload}
use Rattle.ion_model.specs.laws.Measures.{depth-out}
use Rattle.ion_model.specs.laws.Order.{order-agrees}
use Rattle.ion_model.specs.laws.Parts.{scalar_is, symbol_is}
use Rattle.ion_model.specs.laws.Same.{fields-deep, fields_deep, items-deep, items_deep}

kind_at : ℕ → Kind
kind_at n =
    cond (eqb n 0) Kind.Null (cond (eqb n 1) Kind.Bool (cond (eqb n 2) Kind.Int
    (cond (eqb n 3) Kind.Float (cond (eqb n 4) Kind.Decimal (cond (eqb n 5) Kind.Timestamp (cond (eqb n 6) Kind.Symbol
    (cond (eqb n 7) Kind.Str (cond (eqb n 8) Kind.Clob (cond (eqb n 9) Kind.Blob
    (cond (eqb n 10) Kind.List (cond (eqb n 11) Kind.Sexp Kind.Fields)))))))))))

kind_at-rank : (k : Kind) → kind_at (kind_rank k) ≡ k
unfolding kind_at
kind_at-rank Kind.Null = refl
kind_at-rank _ = refl

-- the layer that has these parts
rebuild : Scalar → List Value → List Field → Layer
rebuild s vs fs = cond s.full (cond (eqb s.kind 1) (Payload-F.Truth s.truth)
    (cond (eqb s.kind 2) (Payload-F.Int s.int) (cond (eqb s.kind 4) (Payload-F.Decimal s.decimal)
    (cond (eqb s.kind 5) (Payload-F.Timestamp s.timestamp) (cond (eqb s.kind 6) (Payload-F.Symbol s.symbol)
    (cond (eqb s.kind 7) (Payload-F.Str s.text) (cond (eqb s.kind 8) (Payload-F.Clob s.text)
    (cond (eqb s.kind 9) (Payload-F.Blob s.text) (cond (eqb s.kind 10) (Payload-F.List vs)
    (cond (eqb s.kind 11) (Payload-F.Sexp vs) (Payload-F.Fields fs))))))))))) (Payload-F.Null (kind_at s.kind))

rebuilt : (a : Layer) → rebuild (scalar a) (items a) (fields a) ≡ a
unfolding rebuild
rebuilt (Payload-F.Null k) = ap Payload-F.Null (kind_at-rank k)
rebuilt _ = refl

layer_is : (a b : Layer) → scalar a ≡ scalar b → items a ≡ items b → fields a ≡ fields b → a ≡ b
layer_is a b p q r = sym (rebuilt a) ∙ ap (λ s. rebuild s (items a) (fields a)) p ∙ ap (λ vs. rebuild (scalar b) vs (fields a)) q
    ∙ ap (λ fs. rebuild (scalar b) (items b) fs) r ∙ rebuilt b

-- lists that tie, whose items tie only where they are equal
lists_are : {X : Type 0} (R : X → X → Ordering) (f : X → ℕ) (n : ℕ) → ((x y : X) → f x < n → f y < n → R x y ≡ Equal → x ≡ y) → (xs ys : List X)
    → greatest (map (λ x. suc (f x)) xs) ≤ n → greatest (map (λ x. suc (f x)) ys) ≤ n → slice_cmp R xs ys ≡ Equal → xs ≡ ys
lists_are R f n each [] [] p q h = refl
lists_are R f n each (x ∷ xs) (y ∷ ys) p q h =
    let head : x ≡ y = each x y (omega arith) (omega arith) (then_first (R x y) _ h) in
    let tail : xs ≡ ys = lists_are R f n each xs ys (omega arith) (omega arith) (then_second (R x y) _ h) in
    ap (λ z. z ∷ xs) head ∙ ap (λ zs. y ∷ zs) tail
lists_are R f n each _ _ p q h = cc

symbols_are : (xs ys : List (Option (List ℕ))) → slice_cmp symbol_cmp xs ys ≡ Equal → xs ≡ ys
symbols_are [] [] h = refl
symbols_are (x ∷ xs) (y ∷ ys) h = ap (λ z. z ∷ xs) (symbol_is x y (then_first _ _ h)) ∙ ap (λ zs. y ∷ zs) (symbols_are xs ys (then_second _ _ h))
symbols_are _ _ h = cc

abbrev valued : List (Option (List ℕ)) → Payload → Value
valued a p = record { annotations = a; payload = p }

abbrev named : Option (List ℕ) → Value → Field
named n v = record { name = n; value = v }

is_to : (n : ℕ) (v w : Value) → depth v < n → depth w < n → order_to n v w ≡ Equal → v ≡ w
is_to zero v w p q h = absurd (omega arith)
is_to (suc n) v w p q h =
    let a : Layer = out-Payload v.payload in
    let b : Layer = out-Payload w.payload in
    let R = order_to n in
    let ia : items_deep (items a) ≤ n = omega (arith, depth-out v, items-deep a) in
    let ib : items_deep (items b) ≤ n = omega (arith, depth-out w, items-deep b) in
    let fa : fields_deep (fields a) ≤ n = omega (arith, depth-out v, fields-deep a) in
    let fb : fields_deep (fields b) ≤ n = omega (arith, depth-out w, fields-deep b) in
    let l = then_first _ _ h in
    let k = then_second _ _ l in
    let field_is = λ (f g : Field) (df : depth f.value < n) (dg : depth g.value < n) (e : field_cmp R f g ≡ Equal).
    ap (λ x. named x f.value) (symbol_is f.name g.name (then_first _ _ e)) ∙ ap (λ x. named g.name x) (is_to n f.value g.value df dg (then_second _ _ e)) in
    let same_items : items a ≡ items b = lists_are R depth n (is_to n) (items a) (items b) ia ib (then_first _ _ k) in
    let same_fields : fields a ≡ fields b = lists_are (field_cmp R) _ n field_is (fields a) (fields b) fa fb
    (then_second _ _ k) in
    let layers : a ≡ b = layer_is a b (scalar_is _ _ (then_first _ _ l)) same_items same_fields in
    let payloads : v.payload ≡ w.payload = sym (roll-out-Payload v.payload) ∙ ap roll-Payload layers ∙ roll-out-Payload w.payload in
    ap (λ x. valued x v.payload) (symbols_are v.annotations w.annotations (then_second _ _ h)) ∙ ap (λ x. valued w.annotations x) payloads

-- values that tie in the order are equal
pub equal_from_order : (v w : Value) → order v w ≡ Equal → v ≡ w
equal_from_order v w h =
    let n = suc (max (depth v) (depth w)) in
    is_to n v w (omega arith) (omega arith) ((order-agrees n).at v w (omega arith) (omega arith) ∙ h)
