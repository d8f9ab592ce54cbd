-- Facts of every octet, by computation.
use Rattle.std.proofs.Common.{◌≡◌, ℕ, zero, suc, ◌<◌, Bool, true, false, cond, T, ◌⊎◌, inl, inr, refl, sym, subst, arith}
use Rattle.std.specs.Prelude.{◌&&◌}
use Rattle.std.proofs.lemmas.Bool.{cases_order}

pub both : (b c : Bool) → T (b && c) → T b × T c
both true c h = (tt, h)
both false c h = absurd h

-- of each number below n
abbrev pub holds_below : (ℕ → Bool) → ℕ → Bool
holds_below p zero = true
holds_below p (suc n) = p n && holds_below p n

-- what was computed for all numbers below n holds for each of them
pub holds_at : (p : ℕ → Bool) (n : ℕ) → T (holds_below p n) → (i : ℕ) → i < n → T (p i)
holds_at p zero h i lt = absurd (omega arith)
holds_at p (suc n) h i lt = go (holds_at p n (both (p n) (holds_below p n) h).1 i) (cases_order i n)
  where
    go : (i < n → T (p i)) → (i ≡ n) ⊎ ((i < n) ⊎ (n < i)) → T (p i)
    go below (inl e) = subst (λ x. T (p x)) (sym e) (both (p n) (holds_below p n) h).0
    go below (inr (inl l)) = below l
    go below (inr (inr g)) = let no : ⊥ = omega arith in absurd no

-- two truth values agree
abbrev pub same : Bool → Bool → Bool
same true c = c
same false c = cond c false true

-- truth values that agree are the same
pub same_is : (b c : Bool) → T (same b c) → b ≡ c
same_is true false h = absurd h
same_is false true h = absurd h
same_is _ _ h = refl
