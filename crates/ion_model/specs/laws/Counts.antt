-- Two lists in which each item stands as often, up to an equivalence E.
use Rattle.std.proofs.Common.{◌≡◌, ℕ, ◌<◌, ◌+◌, zero, suc, List, [], ◌∷◌, length, get_or, Bool, true, false, ◌&&◌, cond, eqb, eq-eqb, refl, arith, ap, ◌∙◌, sym}
use Rattle.std.specs.List.{list_all, count_by}
use Rattle.std.specs.Cmp.{IsEquivalence}
use Rattle.std.proofs.lemmas.List.Sums.{sum_by-cons}
use Rattle.std.proofs.lemmas.Bool.{eqb-true}
use Rattle.ion_atoms.specs.laws.Tests.{both, first, second, same_bool}

-- what a test adds to a count
abbrev pub bit : Bool → ℕ
bit b = cond b 1 0

-- an item in front counts where it passes, beside those of the rest
pub count_by-cons : {X : Type 0} (p : X → Bool) (x : X) (xs : List X) → count_by p (x ∷ xs) ≡ cond (p x) 1 0 + count_by p xs
count_by-cons p x xs = sum_by-cons (λ x. cond (p x) 1 0) x xs

module _ {X : Type 0} (E : X → X → Bool) where
  -- how many of a list are the same as an item, by E
  abbrev pub count : List X → X → ℕ
  count ys x = count_by (E x) ys

  abbrev pub agree : List X → List X → List X → Bool
  agree xs ys zs = list_all (λ z. eqb (count xs z) (count ys z)) zs

  abbrev pub alike : List X → List X → Bool
  alike xs ys = agree xs ys xs && agree xs ys ys

  -- each item stands as often in the one list as in the other
  pub record Counts (xs ys : List X) : Type 0 where
    pub at : (x : X) → count xs x ≡ count ys x

  pub agree_all : (xs ys zs : List X) → Counts xs ys → agree xs ys zs ≡ true
  agree_all xs ys [] h = refl
  agree_all xs ys (z ∷ zs) h = both _ _ (eq-eqb _ _ (h.at z)) (agree_all xs ys zs h)

  -- lists in which each item stands as often pass the test of that
  pub alike_from : (xs ys : List X) → Counts xs ys → alike xs ys ≡ true
  alike_from xs ys h = both _ _ (agree_all xs ys xs h) (agree_all xs ys ys h)

  -- an item that is counted, and passes a test that all pass
  pub record Picked (p q : X → Bool) : Type 0 where
    pub item : X
    pub counted : p item ≡ true
    pub passes : q item ≡ true

  pick_at : (p q : X → Bool) (x : X) (xs : List X) (b : Bool) → p x ≡ b → q x ≡ true → (0 < count_by p xs → Picked p q) → 0 < cond b 1 0 + count_by p xs
      → Picked p q
  pick_at p q x xs true is pass rest h = record { item = x; counted = is; passes = pass }
  pick_at p q x xs false is pass rest h = rest (omega arith)

  pub pick : (p q : X → Bool) (xs : List X) → list_all q xs ≡ true → 0 < count_by p xs → Picked p q
  pick p q [] all h = absurd (omega arith)
  pick p q (x ∷ xs) all h = pick_at p q x xs _ refl (first _ _ all) (pick p q xs (second (q x) _ all)) (let e = count_by-cons p x xs in omega (arith, e))

  -- the place of an item that E counts
  pub record Found (x : X) (ys : List X) : Type 0 where
    pub place : ℕ
    pub within : place < length ys
    pub alike : (d : X) → E x (get_or ys place d) ≡ true

  find_at : (x y : X) (ys : List X) (b : Bool) → E x y ≡ b → (0 < count ys x → Found x ys) → 0 < cond b 1 0 + count ys x → Found x (y ∷ ys)
  find_at x y ys true is rest h = record { place = 0; within = omega arith; alike = λ d. is }
  find_at x y ys false is rest h = let f = rest (omega arith) in
      record { place = suc f.place; within = (let w = f.within in omega (arith, w)); alike = f.alike }

  -- an item that is counted in a list has a place there
  pub find : (x : X) (ys : List X) → 0 < count ys x → Found x ys
  find x [] h = absurd (omega arith)
  find x (y ∷ ys) h = find_at x y ys (E x y) refl (find x ys) (omega (arith, count_by-cons (E x) y ys))

  module _ (e : IsEquivalence E) where
    -- an item is counted where it stands
    pub counted : (x : X) (xs : List X) → 0 < count (x ∷ xs) x
    counted x xs = let r : bit (E x x) ≡ bit true = ap bit (e.refl x) in omega (arith, count_by-cons (E x) x xs, r)

    pub count-congr : (xs : List X) (x y : X) → E x y ≡ true → count xs x ≡ count xs y
    count-congr [] x y h = refl
    count-congr (z ∷ zs) x y h =
        count_by-cons (E x) z zs ∙ rw (e.congr x y z h, count-congr zs x y h) (sym (count_by-cons (E y) z zs))

    from_member : (xs ys zs : List X) → agree xs ys zs ≡ true → (x : X) → 0 < count zs x → count xs x ≡ count ys x
    from_member xs ys zs all x h =
        let found = pick (E x) (λ z. eqb (count xs z) (count ys z)) zs all h in
        count-congr xs x found.item found.counted ∙ eqb-true _ _ found.passes ∙ sym (count-congr ys x found.item found.counted)

    cases : (xs ys : List X) → alike xs ys ≡ true → (x : X) (m n : ℕ) → count xs x ≡ m → count ys x ≡ n → count xs x ≡ count ys x
    cases xs ys h x (suc m) n p q = from_member xs ys xs (first _ _ h) x (omega (arith, p))
    cases xs ys h x zero (suc n) p q = from_member xs ys ys (second (agree xs ys xs) _ h) x (omega (arith, q))
    cases xs ys h x zero zero p q = p ∙ sym q

    -- in lists that pass the test of it, each item stands as often
    pub counts_from : (xs ys : List X) → alike xs ys ≡ true → Counts xs ys
    counts_from xs ys h = record { at = λ x. cases xs ys h x (count xs x) (count ys x) refl refl }

    -- whether each item stands as often in two lists is an equivalence
    pub alike_equiv : IsEquivalence alike
    alike_equiv = record {
      refl = λ xs. alike_from xs xs (record { at = λ x. refl });
      symm = λ xs ys. same_bool _ _
          (λ h. alike_from ys xs (record { at = λ x. sym ((counts_from xs ys h).at x) }))
          (λ h. alike_from xs ys (record { at = λ x. sym ((counts_from ys xs h).at x) }));
      congr = λ xs ys zs h.
          let c = counts_from xs ys h in
          same_bool _ _
          (λ k. alike_from ys zs (record { at = λ x. sym (c.at x) ∙ (counts_from xs zs k).at x }))
          (λ k. alike_from xs zs (record { at = λ x. c.at x ∙ (counts_from ys zs k).at x }));
    }
