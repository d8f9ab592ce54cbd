-- What stands in a list, one element of which was written.
use Rattle.std.proofs.Common.{◌≡◌, ◌⊎◌, inl, inr, ℕ, zero, suc, ◌+◌, ◌<◌, ◌≤◌, List, [], ◌∷◌, set, get_or, slice_get, Some, refl, sym, subst, arith, ◌∙◌}

written : {X : Type 0} (xs : List X) (i : ℕ) (y x : X) → slice_get (set xs i y) i ≡ Some x → y ≡ x
written [] i y x h = absurd cc
written (z ∷ xs) zero y x h = cc
written (z ∷ xs) (suc i) y x h = written xs i y x h

before : {X : Type 0} (xs : List X) (i k : ℕ) (y : X) → k < i → slice_get (set xs i y) k ≡ slice_get xs k
before [] i k y h = refl
before (z ∷ xs) zero k y h = absurd (omega arith)
before (z ∷ xs) (suc i) zero y h = refl
before (z ∷ xs) (suc i) (suc k) y h = before xs i k y (omega arith)

below : (k i : ℕ) → k < i + 1 → (k < i) ⊎ (k ≡ i)
below zero zero h = inr refl
below zero (suc i) h = inl (omega arith)
below (suc k) zero h = absurd (omega arith)
below (suc k) (suc i) h = more (below k i (omega arith)) where
  more : (k < i) ⊎ (k ≡ i) → (suc k < suc i) ⊎ (suc k ≡ suc i)
  more (inl l) = inl (omega arith)
  more (inr e) = inr (omega arith)

read : {X : Type 0} (xs : List X) (i : ℕ) (d x : X) → slice_get xs i ≡ Some x → get_or xs i d ≡ x
read [] i d x h = absurd cc
read (z ∷ xs) zero d x h = cc
read (z ∷ xs) (suc i) d x h = read xs i d x h

-- what held of the elements of two lists below a place holds up to it, where it holds of what is written there
pub one_more : {X Y : Type 0} (P : X → Y → Type 0) (xs : List X) (ys : List Y) (i : ℕ) (d : X) (v : Y) → P (get_or xs i d) v
    → ((k : ℕ) (x : X) (y : Y) → k < i → slice_get xs k ≡ Some x → slice_get ys k ≡ Some y → P x y)
    → (k : ℕ) (x : X) (y : Y) → k < i + 1 → slice_get xs k ≡ Some x → slice_get (set ys i v) k ≡ Some y → P x y
one_more P xs ys i d v here held k x y lt at found = by (below k i lt) where
  by : (k < i) ⊎ (k ≡ i) → P x y
  by (inl l) = held k x y l at (sym (before ys i k v l) ∙ found)
  by (inr e) =
      let this : get_or xs i d ≡ x = read xs i d x (subst (λ j. slice_get xs j ≡ Some x) e at) in
      let that : v ≡ y = written ys i v y (subst (λ j. slice_get (set ys i v) j ≡ Some y) e found) in
      subst (λ z. P x z) that (subst (λ z. P z v) this here)
