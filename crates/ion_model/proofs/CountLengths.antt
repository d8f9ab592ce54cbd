-- Two lists in which each item stands as often, up to an equivalence E, are as long.
use Rattle.std.proofs.Common.{◌≡◌, ℕ, ◌<◌, ◌+◌, zero, suc, List, [], ◌∷◌, length, get_or, Bool, true, false, cond, refl, arith, ap, ◌∙◌, subst}
use Rattle.std.specs.Cmp.{IsEquivalence}
use Rattle.std.specs.List.{count_by}
use Rattle.ion_model.specs.Names.{Field, field_same, fields_same, same}
use Rattle.ion_model.specs.laws.Counts.{Counts, Found, bit, count_by-cons, counted, counts_from, find}
use Rattle.ion_model.specs.laws.Equivalence.{field_same-equiv, same-equiv}

-- a list without the item at k
without : {X : Type 0} → List X → ℕ → List X
without [] k = []
without (x ∷ xs) zero = xs
without (x ∷ xs) (suc k) = x ∷ without xs k

length-without : {X : Type 0} (xs : List X) (k : ℕ) → k < length xs → length xs ≡ suc (length (without xs k))
unfolding without
length-without [] k h = absurd (omega arith)
length-without (x ∷ xs) zero h = refl
length-without (x ∷ xs) (suc k) h = omega (arith, length-without xs k (omega arith))

count_by-without : {X : Type 0} (p : X → Bool) (xs : List X) (k : ℕ) (d : X) → k < length xs
    → count_by p xs ≡ cond (p (get_or xs k d)) 1 0 + count_by p (without xs k)
unfolding without
count_by-without p [] k d h = absurd (omega arith)
count_by-without p (x ∷ xs) zero d h = count_by-cons p x xs
count_by-without p (x ∷ xs) (suc k) d h = omega (arith, count_by-cons p x xs, count_by-cons p x (without xs k), count_by-without p xs k d (omega arith))

module _ {X : Type 0} (E : X → X → Bool) (e : IsEquivalence E) where
  rest_counts : (x : X) (xs ys : List X) (f : Found E x ys) → Counts E (x ∷ xs) ys → Counts E xs (without ys f.place)
  rest_counts x xs ys f c = record {
    at = λ z.
        let y = get_or ys f.place x in
        let alike : E z x ≡ E z y = e.symm z x ∙ e.congr x y z (f.alike x) ∙ e.symm y z in
        let r : bit (E z x) ≡ bit (E z y) = ap bit alike in
        omega (arith, c.at z, count_by-cons (E z) x xs, count_by-without (E z) ys f.place x f.within, r);
  }

  lengths : (xs ys : List X) → Counts E xs ys → length xs ≡ length ys
  lengths [] [] c = refl
  lengths [] (y ∷ ys) c = absurd (omega (arith, c.at y, counted E e y ys))
  lengths (x ∷ xs) ys c =
      let f = find E x ys (subst (λ n. 0 < n) (c.at x) (counted E e x xs)) in
      let shorter = lengths xs (without ys f.place) (rest_counts x xs ys f c) in
      omega (arith, shorter, length-without ys f.place f.within)

different : (b : Bool) → (b ≡ true → ⊥) → false ≡ b
different true h = absurd (h refl)
different false h = refl

-- structs of different numbers of fields aren't equivalent
pub fields_same-lengths : (fs gs : List Field) → (length fs ≡ length gs → ⊥) → false ≡ fields_same same fs gs
fields_same-lengths fs gs h =
    let E = field_same same in
    let e = field_same-equiv same same-equiv in
    different _ (λ s. h (lengths E e fs gs (counts_from E e fs gs s)))
