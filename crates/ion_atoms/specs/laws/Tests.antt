-- Two tests that hold together, and two that follow from each other.
use Rattle.std.proofs.Common.{◌≡◌, Bool, true, false, ◌&&◌, refl, sym, true≢false}

-- two tests that hold hold together
pub both : (a b : Bool) → a ≡ true → b ≡ true → a && b ≡ true
both true b p q = q
both false b p q = p

-- of two tests that hold together the first holds
pub first : (a b : Bool) → a && b ≡ true → a ≡ true
first true b p = refl
first false b p = p

-- of two tests that hold together the second holds
pub second : (a b : Bool) → a && b ≡ true → b ≡ true
second true b p = p
second false b p = absurd (true≢false (sym p))

-- tests that follow from each other
pub same_bool : (a b : Bool) → (a ≡ true → b ≡ true) → (b ≡ true → a ≡ true) → a ≡ b
same_bool true b p q = sym (p refl)
same_bool false true p q = q refl
same_bool false false p q = refl
