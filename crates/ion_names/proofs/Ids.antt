-- The ids of names that all differ, as a set gives them: each is the place of its name.
use Rattle.std.proofs.Common.{◌≡◌, ℕ, suc, zero, ◌+◌, ◌≤◌, Bool, true, false, true≢false, not, cond, position, List, [], ◌∷◌, length, slice_get, Option, None, Some, refl, sym, ap, ◌∙◌, arith}
use Rattle.std.specs.Prelude.{nat_lt}
use Rattle.std.specs.Cmp.{IsEquivalence}
use Rattle.std.specs.List.{position_or_len, AllByRecursion, IsDistinct}
use Rattle.std.specs.Option.{unwrap_or}
use Rattle.std.proofs.lemmas.Bool.{ltb-false}
use Rattle.std.proofs.lemmas.List.Sums.{prefix_len-le-length}
use Rattle.std.proofs.lemmas.Map.Keys.{IsDistinct-head, IsDistinct-tail}
use Rattle.ion_names.specs.Names.{Names, id_of, symbol_same}
use Rattle.ion_model.specs.laws.Equivalence.{symbol_same-equiv}

-- 1. Places.

or_if : (n m : ℕ) (b : Bool) → nat_lt n m ≡ b → n ≤ m → unwrap_or (cond b (Some n) None) m ≡ n
or_if n m true e h = refl
or_if n m false e h = omega (arith, ltb-false n m e)

-- the place of the first that passes, or how many there are
pub place_or : {X : Type 0} (p : X → Bool) (xs : List X) → unwrap_or (position p xs) (length xs) ≡ position_or_len p xs
place_or p xs = or_if (position_or_len p xs) (length xs) (nat_lt (position_or_len p xs) (length xs)) refl (prefix_len-le-length (λ x. not (p x)) xs)

each_at : {X : Type 0} (P : X → Type 0) (xs : List X) (i : ℕ) (y : X) → AllByRecursion P xs → slice_get xs i ≡ Some y → P y
each_at P [] i y h e = cc
each_at P (x ∷ xs) zero y h e = let same : x ≡ y = cc in rw (← same) h.0
each_at P (x ∷ xs) (suc i) y h e = each_at P xs i y h.1 e

not_here : {X : Type 0} (p : X → Bool) (x : X) (xs : List X) → p x ≡ false → position_or_len p (x ∷ xs) ≡ suc (position_or_len p xs)
not_here p x xs e = rw e (let n = position_or_len p xs in let same : 1 + n ≡ suc n = omega arith in same)

-- where all differ, the place of one that is the same is the first such
place_is : {X : Type 0} (eq : X → X → Bool) → IsEquivalence eq → (xs : List X) (i : ℕ) (x y : X) → IsDistinct eq xs → slice_get xs i ≡ Some y → eq x y ≡ true
    → i ≡ position_or_len (eq x) xs
place_is eq laws [] i x y d e h = cc
place_is eq laws (z ∷ zs) zero x y d e h = let same : z ≡ y = cc in rw (same, h) refl
place_is eq laws (z ∷ zs) (suc i) x y d e h = ap suc (place_is eq laws zs i x y (IsDistinct-tail eq z zs d) e h) ∙ sym (not_here (eq x) z zs (by (eq x z) refl))
  where
    apart : eq z y ≡ false
    apart = each_at (λ w. eq z w ≡ false) zs i y (IsDistinct-head eq z zs d) e

    by : (b : Bool) → eq x z ≡ b → eq x z ≡ false
    by true same = absurd (true≢false (sym h ∙ (laws.congr x z y same ∙ apart)))
    by false other = other

-- 2. Ids.

-- the place of a name that is the same as a symbol is the symbol's id
pub id_at : (names : Names) (id : ℕ) (s other : Option (List ℕ)) → IsDistinct symbol_same names → slice_get names id ≡ Some other → symbol_same s other ≡ true
    → id ≡ id_of names s
id_at = place_is symbol_same symbol_same-equiv
