-- Digits times powers.
use Rattle.std.proofs.Common.{◌≡◌, ℕ, zero, suc, ◌+◌, ◌*◌, ◌^◌, ◌<◌, ◌≤◌, List, [], ◌∷◌, ◌++◌, length, get_or, take, drop, ap, subst, ◌∙◌, arith, length-append}
use Rattle.std.proofs.Math.Nat.{pow-suc, pow-zero, one-le-pow, mul-le-mul_left}
use Rattle.std.proofs.lemmas.Nat.{pow-add}
use Rattle.std.proofs.lemmas.List.{take_more, take-append-drop}
use Rattle.ion_scalar.specs.binary.Fields.{positional}

-- what stands behind moves the number up
pub positional-append : (base : ℕ) (xs ys : List ℕ) → positional base (xs ++ ys) ≡ positional base xs * base ^ length ys + positional base ys
positional-append base [] ys = omega arith
positional-append base (x ∷ xs) ys =
    let e : base ^ length (xs ++ ys) ≡ base ^ length xs * base ^ length ys = ap (λ n. base ^ n) (length-append xs ys) ∙ pow-add base (length xs) (length ys) in
    let f = positional-append base xs ys in
    rw e (omega arith)

power_one : (base : ℕ) → base ^ suc zero ≡ base
power_one base = pow-suc base 0 ∙ (ap (λ n. n * base) (pow-zero base) ∙ omega arith)

-- one digit alone is its own number
pub positional_one : (base x : ℕ) → positional base (x ∷ []) ≡ x
positional_one base x = ap (λ p. x * p + 0) (pow-zero base) ∙ omega arith

-- a digit behind moves the number up by one place and is added
pub positional_push : (base : ℕ) (xs : List ℕ) (x : ℕ) → positional base (xs ++ x ∷ []) ≡ positional base xs * base + x
positional_push base xs x =
    positional-append base xs (x ∷ []) ∙ rw (positional_one base x) (ap (λ p. positional base xs * p + x) (power_one base))

-- the next digit moves the number of those before it up by one place and is added
pub positional_more : (base : ℕ) (xs : List ℕ) (i : ℕ) → i < length xs → positional base (take (i + 1) xs) ≡ positional base (take i xs) * base + get_or xs i 0
positional_more base xs i h = ap (positional base) (take_more xs i 0 h) ∙ positional_push base (take i xs) (get_or xs i 0)

-- what stands behind digits makes their number no smaller
pub positional_mono : (base : ℕ) (xs ys : List ℕ) → 0 < base → positional base xs ≤ positional base (xs ++ ys)
positional_mono base xs ys h =
    omega (arith, positional-append base xs ys, mul-le-mul_left (positional base xs) (one-le-pow (length ys) base h))

-- a number in front is a digit like any other, however large
pub positional_behind : (base before : ℕ) (xs : List ℕ) (i : ℕ) → i < length xs → positional base (before ∷ take (i + 1) xs)
    ≡ positional base (before ∷ take i xs) * base + get_or xs i 0
positional_behind base before xs i h = ap (λ (ys : List ℕ). positional base (before ∷ ys)) (take_more xs i 0 h)
    ∙ positional_push base (before ∷ take i xs) (get_or xs i 0)

-- behind a number in front, some of the digits make no more than all of them
pub positional_behind_take : (base before : ℕ) (xs : List ℕ) (i : ℕ) → 0 < base → positional base (before ∷ take i xs) ≤ positional base (before ∷ xs)
positional_behind_take base before xs i h =
    subst (λ (ys : List ℕ). positional base (before ∷ take i xs) ≤ positional base (before ∷ ys)) (take-append-drop i xs)
    (positional_mono base (before ∷ take i xs) (drop i xs) h)
