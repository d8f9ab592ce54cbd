-- Steps of `tidy`.
use Rattle.std.proofs.Common.{◌≡◌, ℕ, ◌≤◌, ◌<◌, ◌+◌, ◌≢◌, zero, suc, List, [], ◌∷◌, length, get_or, Bool, true, refl, arith, ap, ◌∙◌, sym, subst, ◌⊎◌, Result, Ok, Err, Ordering, OnOk, ⊎_elim, inl, inr, get_or-set_same, get_or-set_other, cond}
use Rattle.std.proofs.Math.ListN.{set}
use Rattle.std.specs.Cmp.{IsEquivalence}
use Rattle.std.specs.List.Sorted.{IsPermutation, IsSortedByClosure}
use Rattle.std.proofs.lemmas.List.Sorted.{sum_by-IsPermutation, ranks_by, answers_always}
use Rattle.std.specs.Fn.{Called}
use denote.Param.Members.{Mut}
use denote.Ref.{Bor}
use Rattle.std.specs.Ordering.{is_lt}
use Rattle.std.proofs.lemmas.Bool.{cases_eq}
use lib.Pointwise.{pointwise}
use Rattle.std.proofs.lemmas.Cmp.{lists_equiv}
use Rattle.ion_model.specs.Names.{Field, FieldsInOrder, IsNormal, IsNormalTo, LayerNormal, Payload, Value, field_cmp, field_same, fields_same, layer_same, order, out-Payload, roll-Value, same}
use Rattle.ion_atoms.specs.laws.Tests.{both, first, second}
use Rattle.ion_model.specs.laws.Counts.{Counts, alike_from, count, count_by-cons}
use Rattle.ion_model.specs.laws.Equivalence.{field_same-equiv, same-equiv, symbol_same-equiv}
use Rattle.ion_model.specs.laws.OrderTotal.{field_cmp-total, order-total}
use Rattle.ion_model.specs.laws.Same.{same-is}

-- a value by one level
pub normal_from : (v : Value) → LayerNormal (out-Payload v.payload) → IsNormal v
normal_from v h = record { to = each } where
  each : (n : ℕ) → IsNormalTo n v
  each zero = tt
  each (suc n) = ((λ k d lt. (h.0 k d lt).to n), (λ k d lt. (h.1 k d lt).to n), h.2)

-- of a normal value the values inside are normal, and the fields are in order
pub layer_from : (v : Value) → IsNormal v → LayerNormal (out-Payload v.payload)
layer_from v h = (
  (λ k d lt. record { to = λ n. (h.to (suc n)).0 k d lt }),
  (λ k d lt. record { to = λ n. (h.to (suc n)).1 k d lt }),
  (h.to 1).2,
)

-- a value with another payload that is the same
pub same_payload : (v w : Value) → v.annotations ≡ w.annotations → layer_same same (out-Payload v.payload) (out-Payload w.payload) ≡ true → same v w ≡ true
same_payload v w e h =
    same-is v w ∙ both _ _ (rw e ((lists_equiv symbol_same-equiv).refl w.annotations)) h

-- one item is replaced
pub pointwise-set : {X : Type 0} (E : X → X → Bool) (xs ys : List X) (i : ℕ) (x d : X) → i < length xs → pointwise E xs ys ≡ true → E x (get_or ys i d) ≡ true
    → pointwise E (set xs i x) ys ≡ true
pointwise-set E [] ys i x d lt h e = absurd (omega arith)
pointwise-set E (y ∷ xs) [] i x d lt h e = cc
pointwise-set E (y ∷ xs) (z ∷ ys) zero x d lt h e = both _ _ e (second _ _ h)
pointwise-set E (y ∷ xs) (z ∷ ys) (suc i) x d lt h e = both _ _ (first _ _ h) (pointwise-set E xs ys i x d (omega arith) (second (E y z) _ h) e)

module _ {X : Type 0} (E : X → X → Bool) (eq : IsEquivalence E) where
  -- lists that agree place by place count alike
  count-pointwise : (xs ys : List X) (x : X) → pointwise E xs ys ≡ true → count E xs x ≡ count E ys x
  count-pointwise [] [] x h = refl
  count-pointwise (z ∷ xs) (y ∷ ys) x h =
      let zy : E z y ≡ true = first _ _ h in
      count_by-cons (E x) z xs ∙ rw (eq.symm x z, eq.congr z y x zy, eq.symm y x, count-pointwise xs ys x (second (E z y) _ h)) (sym (count_by-cons (E x) y ys))
  count-pointwise _ _ x h = cc

  -- lists that agree place by place have each item as often
  pub pointwise_counts : (xs ys : List X) → pointwise E xs ys ≡ true → Counts E xs ys
  pointwise_counts xs ys h = record { at = λ x. count-pointwise xs ys x h }

  -- and so does a list in another order
  pub counts_moved : (xs ys zs : List X) → pointwise E ys xs ≡ true → IsPermutation ys zs → Counts E zs xs
  counts_moved xs ys zs h p = record { at = λ x. sum_by-IsPermutation (λ y. cond (E x y) 1 0) ys zs p ∙ count-pointwise ys xs x h }

-- fields that agree with others place by place are the same as those in any other order
pub fields_moved : (xs ys zs : List Field) → pointwise (field_same same) ys xs ≡ true → IsPermutation ys zs → fields_same same zs xs ≡ true
fields_moved xs ys zs h p = alike_from (field_same same) zs xs (counts_moved (field_same same) (field_same-equiv same same-equiv) xs ys zs h p)

-- the value with a payload put back
pub same_with : (v : Value) (p q : Payload) → q ≡ v.payload → layer_same same (out-Payload p) (out-Payload q) ≡ true
    → same (roll-Value (record { annotations = v.annotations; payload = p })) v ≡ true
same_with v p q e h = same_payload _ v refl (subst (λ r. layer_same same (out-Payload p) (out-Payload r) ≡ true) e h)

module _ {X : Type 0} (E : X → X → Bool) where
  -- a walk that changes the item at i
  pub walked : (now was : List X) (i : ℕ) (x y : X) → i < length now → pointwise E now was ≡ true → ((k : ℕ) (d : X) → i ≤ k → get_or now k d ≡ get_or was k d)
      → y ≡ get_or now i y → E x y ≡ true → pointwise E (set now i x) was ≡ true
  walked now was i x y lt h later is e = pointwise-set E now was i x y lt h (subst (λ z. E x z ≡ true) (is ∙ later i y (omega arith)) e)

-- what a walk keeps of the items that come
pub later_more : {X : Type 0} (now was : List X) (i : ℕ) (x : X) → ((k : ℕ) (d : X) → i ≤ k → get_or now k d ≡ get_or was k d) → (k : ℕ) (d : X) → i + 1 ≤ k
    → get_or (set now i x) k d ≡ get_or was k d
later_more now was i x later k d le = let ne : k ≢ i = omega arith in get_or-set_other now i k x d ne ∙ later k d (omega arith)

last_or_below : (k i : ℕ) → k < i + 1 → (k ≡ i) ⊎ (k < i)
last_or_below k i h = ⊎_elim (λ (e : k ≡ i). inl e) (λ (n : k ≢ i). inr (omega arith)) (cases_eq k i)

-- and says of those that are done
pub done_more : {X : Type 0} (P : X → Type 0) (now : List X) (i : ℕ) (x : X) → i < length now → ((k : ℕ) (d : X) → k < i → P (get_or now k d)) → P x
    → (k : ℕ) (d : X) → k < i + 1 → P (get_or (set now i x) k d)
done_more P now i x lt done p k d below = ⊎_elim
    (λ (e : k ≡ i). subst P (sym (ap (λ j. get_or (set now i x) j d) e ∙ get_or-set_same now i x d lt)) p)
    (λ (h : k < i). let ne : k ≢ i = omega arith in subst P (sym (get_or-set_other now i k x d ne)) (done k d h))
    (last_or_below k i below)

-- a claim that always holds holds of every result
pub always_ok : {T E : Type 0} (r : Result T E) → OnOk r (Unit {0})
always_ok (Ok x) = tt
always_ok (Err e) = tt

-- what the sort leaves, by a closure that answers by the order of fields
pub sorted_rows : {T E F : Type 0} (g : Mut F (Bor Field × (Bor Field × Unit {0})) Ordering) (f : F) (fs : List Field) (r : Result T E)
    → OnOk r (IsSortedByClosure g f fs)
    → ((f : F) (a : Bor Field × (Bor Field × Unit {0})) (o : Ordering) (f' : F) → Called g f a o f' → o ≡ field_cmp order a.0.now a.1.0.now)
    → OnOk r (FieldsInOrder fs)
sorted_rows g f fs (Ok x) h each =
    h (λ x y. is_lt (field_cmp order x y)) (ranks_by (field_cmp-total order order-total) (λ (x : Field). x))
    (answers_always g (λ a r. is_lt r ≡ is_lt (field_cmp order a.0.now a.1.0.now)) f (λ f a o f' c. ap is_lt (each f a o f' c)))
sorted_rows g f fs (Err e) h each = tt
