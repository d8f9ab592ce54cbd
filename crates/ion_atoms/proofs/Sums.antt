-- What two coefficients add up to, by their signs, and when that is too much for a decimal.
use Rattle.std.proofs.Common.{◌≡◌, ℕ, zero, suc, ◌+◌, ◌-◌, ◌^◌, ◌<◌, ◌≤◌, Bool, true, false, cond, refl, arith, ℤ, ◌+ℤ◌, unsigned_abs}
use Rattle.std.specs.Prelude.{◌≢◌, int_lt}
use Rattle.std.specs.Int.{int_min}
use Rattle.std.proofs.lemmas.Int.{ints}
use Rattle.ion_atoms.specs.Decimals.{DecimalParts, IsDecimal, decimal_sum, magnitude_at, signed, sum_at}

-- two of one sign
pub same_signs : (e : ℤ) (s : Bool) (a b : ℕ) → sum_at e s a s b ≡ record { negative = s; magnitude = a + b; exponent = e }
same_signs e false a b = grind (arith, ints)
same_signs e true zero b = grind (arith, ints)
same_signs e true (suc a) b = grind (arith, ints)

-- two of different signs, the second the greater
pub second_greater : (e : ℤ) (s t : Bool) (a b : ℕ) → s ≢ t → a < b → sum_at e s a t b ≡ record { negative = t; magnitude = b - a; exponent = e }
second_greater e false false a b n h = absurd (n refl)
second_greater e false true a b n h = grind (arith, ints)
second_greater e true false a b n h = grind (arith, ints)
second_greater e true true a b n h = absurd (n refl)

-- the first
pub first_greater : (e : ℤ) (s t : Bool) (a b : ℕ) → s ≢ t → b < a → sum_at e s a t b ≡ record { negative = s; magnitude = a - b; exponent = e }
first_greater e false false a b n h = absurd (n refl)
first_greater e false true a b n h = grind (arith, ints)
first_greater e true false a b n h = grind (arith, ints)
first_greater e true true a b n h = absurd (n refl)

-- neither
pub neither_greater : (e : ℤ) (s t : Bool) (a : ℕ) → s ≢ t → sum_at e s a t a ≡ record { negative = false; magnitude = 0; exponent = e }
neither_greater e false false a n = absurd (n refl)
neither_greater e false true a n = grind (arith, ints)
neither_greater e true false a n = grind (arith, ints)
neither_greater e true true a n = absurd (n refl)

-- what is left of the first coefficient, whatever the second
left_of_first : (s t : Bool) (a b : ℕ) → a ≤ unsigned_abs (signed s a +ℤ signed t b) + b
left_of_first false false a b = grind (arith, ints)
left_of_first false true a b = grind (arith, ints)
left_of_first true false a b = grind (arith, ints)
left_of_first true true a b = grind (arith, ints)

left_of_second : (s t : Bool) (a b : ℕ) → b ≤ unsigned_abs (signed s a +ℤ signed t b) + a
left_of_second false false a b = grind (arith, ints)
left_of_second false true a b = grind (arith, ints)
left_of_second true false a b = grind (arith, ints)
left_of_second true true a b = grind (arith, ints)

-- at its own exponent a decimal is as it was
own_magnitude : (d : DecimalParts) → magnitude_at d.exponent d ≡ d.magnitude
own_magnitude d = grind (arith, ints)

-- a coefficient that leaves 128 bits leaves none of 127, since the other one keeps its exponent
pub first_too_great : (d e : DecimalParts) → IsDecimal d → IsDecimal e → 2 ^ 128 ≤ magnitude_at (int_min d.exponent e.exponent) d → IsDecimal (decimal_sum d e) → ⊥
first_too_great d e h k great kept = by (int_lt e.exponent d.exponent) great kept
  where
    by : (lower : Bool) → let x = cond lower e.exponent d.exponent in 2 ^ 128 ≤ magnitude_at x d → IsDecimal (sum_at x d.negative (magnitude_at x d) e.negative (magnitude_at x e)) → ⊥
    by false great kept = omega (arith, own_magnitude d, h.0, great)
    by true great kept = omega (arith, own_magnitude e, k.0, great, kept.0, left_of_first d.negative e.negative (magnitude_at e.exponent d) (magnitude_at e.exponent e))

pub second_too_great : (d e : DecimalParts) → IsDecimal d → IsDecimal e → 2 ^ 128 ≤ magnitude_at (int_min d.exponent e.exponent) e → IsDecimal (decimal_sum d e) → ⊥
second_too_great d e h k great kept = by (int_lt e.exponent d.exponent) great kept
  where
    by : (lower : Bool) → let x = cond lower e.exponent d.exponent in 2 ^ 128 ≤ magnitude_at x e → IsDecimal (sum_at x d.negative (magnitude_at x d) e.negative (magnitude_at x e)) → ⊥
    by true great kept = omega (arith, own_magnitude e, k.0, great)
    by false great kept = omega (arith, own_magnitude d, h.0, great, kept.0, left_of_second d.negative e.negative (magnitude_at d.exponent d) (magnitude_at d.exponent e))
