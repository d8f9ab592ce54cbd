-- Equivalence by one level: the values inside are tested by equivalence itself.
use Rattle.std.proofs.Common.{◌≡◌, ℕ, ◌≤◌, ◌<◌, ◌+◌, zero, suc, max, List, [], ◌∷◌, map, length, get_or, Bool, true, false, ◌&&◌, eqb, eq-eqb, take, refl, arith, ap, ◌∙◌, sym}
use Rattle.std.proofs.lemmas.List.Folds.{list_all_at, list_all_more}
use Rattle.std.proofs.lemmas.Bool.{ne_eqb}
use lib.Pointwise.{pointwise}
use Rattle.ion_model.specs.Names.{Field, Layer, Payload-F, Value, counts_agree, depth, field_count, field_same, fields, greatest, items, layer_depth, layer_same, out-Payload, same, same_to, symbol_same, value_same}
use Rattle.ion_model.specs.laws.Counts.{count_by-cons}
use Rattle.ion_model.specs.laws.Measures.{depth-out}

-- two tests that agree on values less than n deep
pub record Agree {A : Type 0} (n : ℕ) (E F : Value → Value → A) : Type 0 where
  pub at : (v w : Value) → depth v < n → depth w < n → E v w ≡ F v w

-- one more than the depth of the deepest of these values, 0 where there are none
abbrev pub items_deep : List Value → ℕ
items_deep vs = greatest (map (λ v. suc (depth v)) vs)

-- one more than the depth of the deepest of these fields' values, 0 where there are none
abbrev pub fields_deep : List Field → ℕ
fields_deep fs = greatest (map (λ f. suc (depth f.value)) fs)

pointwise-agree : (n : ℕ) (E F : Value → Value → Bool) → Agree n E F → (vs ws : List Value) → items_deep vs ≤ n → items_deep ws ≤ n
    → pointwise E vs ws ≡ pointwise F vs ws
pointwise-agree n E F h (v ∷ vs) (w ∷ ws) p q =
    rw (h.at v w (omega arith) (omega arith), pointwise-agree n E F h vs ws (omega arith) (omega arith))
pointwise-agree n E F h _ _ p q = refl

field_count-agree : (n : ℕ) (E F : Value → Value → Bool) → Agree n E F → (gs : List Field) (f : Field) → fields_deep gs ≤ n → depth f.value < n
    → field_count E gs f ≡ field_count F gs f
field_count-agree n E F h [] f p q = refl
field_count-agree n E F h (g ∷ gs) f p q =
    count_by-cons (field_same E f) g gs
    ∙ rw (h.at f.value g.value (omega arith) (omega arith), field_count-agree n E F h gs f (omega arith) (omega arith))
    (sym (count_by-cons (field_same F f) g gs))

counts-agree : (n : ℕ) (E F : Value → Value → Bool) → Agree n E F → (fs gs hs : List Field) → fields_deep fs ≤ n → fields_deep gs ≤ n → fields_deep hs ≤ n
    → counts_agree E fs gs hs ≡ counts_agree F fs gs hs
counts-agree n E F h fs gs [] p q r = refl
counts-agree n E F h fs gs (x ∷ hs) p q r =
    rw (
      field_count-agree n E F h fs x (omega arith) (omega arith),
      field_count-agree n E F h gs x (omega arith) (omega arith),
      counts-agree n E F h fs gs hs p q (omega arith),
    )

above_all : {A : Type 0} (f : A → ℕ) (xs : List A) → greatest (map (λ x. suc (f x)) xs) ≤ suc (greatest (map f xs))
above_all f [] = omega arith
above_all f (x ∷ xs) = omega (arith, above_all f xs)

-- the items of a payload are less deep than the payload
pub items-deep : (a : Layer) → items_deep (items a) ≤ layer_depth a
items-deep (Payload-F.List vs) = above_all depth vs
items-deep (Payload-F.Sexp vs) = above_all depth vs
items-deep _ = omega arith

-- the values of a payload's fields are less deep than the payload
pub fields-deep : (a : Layer) → fields_deep (fields a) ≤ layer_depth a
fields-deep (Payload-F.Fields fs) = above_all (λ f. depth f.value) fs
fields-deep _ = omega arith

layer-agree : (n : ℕ) (E F : Value → Value → Bool) → Agree n E F → (a b : Layer) → layer_depth a ≤ n → layer_depth b ≤ n → layer_same E a b ≡ layer_same F a b
layer-agree n E F h a b p q =
    let ia : items_deep (items a) ≤ n = omega (arith, items-deep a) in
    let ib : items_deep (items b) ≤ n = omega (arith, items-deep b) in
    let fa : fields_deep (fields a) ≤ n = omega (arith, fields-deep a) in
    let fb : fields_deep (fields b) ≤ n = omega (arith, fields-deep b) in
    rw (
      pointwise-agree n E F h _ _ ia ib,
      counts-agree n E F h _ _ _ fa fb fa,
      counts-agree n E F h _ _ _ fa fb fb,
    )

-- and one level above
value-agree : (n : ℕ) (E F : Value → Value → Bool) → Agree n E F → (v w : Value) → depth v ≤ n → depth w ≤ n → value_same E v w ≡ value_same F v w
value-agree n E F h v w p q =
    ap (λ b. pointwise symbol_same v.annotations w.annotations && b)
    (layer-agree n E F h (out-Payload v.payload) (out-Payload w.payload) (omega (arith, depth-out v)) (omega (arith, depth-out w)))

-- levels below the deepest value change nothing
stable : (m n k : ℕ) → k ≤ m → k ≤ n → Agree k (same_to m) (same_to n)
stable m n zero p q = record { at = λ v w a b. absurd (omega arith) }
stable (suc m) (suc n) (suc k) p q = record { at = λ v w a b. value-agree k _ _ (stable m n k (omega arith) (omega arith)) v w (omega arith) (omega arith) }
stable _ _ _ p q = absurd (omega arith)

-- equivalence to n levels is equivalence, of values less than n deep
pub same-agrees : (n : ℕ) → Agree n (same_to n) same
unfolding same
same-agrees n = record {
  at = λ v w a b. (stable n (suc (max (depth v) (depth w))) (suc (max (depth v) (depth w))) (omega arith) (omega arith)).at v w
      (omega arith) (omega arith);
}

-- two values are equivalent where one level says so, with equivalence as the test of the values inside
pub same-is : (v w : Value) → same v w ≡ value_same same v w
unfolding same
same-is v w = value-agree (max (depth v) (depth w)) _ same (same-agrees (max (depth v) (depth w))) v w (omega arith) (omega arith)

-- one field more, in a walk
pub counts_agree_fails : (E : Value → Value → Bool) (fs gs hs : List Field) (i : ℕ) (x : Field) → i < length hs → x ≡ get_or hs i x
    → (field_count E fs x ≡ field_count E gs x → ⊥) → false ≡ counts_agree E fs gs hs
counts_agree_fails E fs gs hs i x h is differ =
    sym (list_all_at (λ h. eqb (field_count E fs h) (field_count E gs h)) hs i x h (rw (← is) (ne_eqb _ _ differ)))

-- where the fields before a place stand as often in two structs, and that at it does, so do those up to it
pub counts_agree_more : (E : Value → Value → Bool) (fs gs hs : List Field) (i : ℕ) (x : Field) → i < length hs → x ≡ get_or hs i x
    → field_count E fs x ≡ field_count E gs x → counts_agree E fs gs (take i hs) ≡ true → counts_agree E fs gs (take (i + 1) hs) ≡ true
counts_agree_more E fs gs hs i x h is agree so_far =
    list_all_more (λ h. eqb (field_count E fs h) (field_count E gs h)) hs i x h ∙ rw (so_far, ← is) (eq-eqb _ _ agree)

-- where the annotations agree, the payloads decide
pub same-payload : (v w : Value) → pointwise symbol_same v.annotations w.annotations ≡ true → layer_same same (out-Payload v.payload) (out-Payload w.payload)
    ≡ same v w
same-payload v w h = sym (same-is v w ∙ ap (λ b. b && layer_same same (out-Payload v.payload) (out-Payload w.payload)) h)
