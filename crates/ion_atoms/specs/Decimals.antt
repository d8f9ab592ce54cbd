-- Decimals: their parts, which of them are kept, when two are the same, their order, and their sum.
use Rattle.std.specs.Prelude.{ℕ, ℤ, pos, neg_ℤ, ◌≤ℤ◌, ◌<ℤ◌, ◌+ℤ◌, ◌-ℤ◌, Bool, cond, ◌&&◌, ◌<◌, ◌^◌, ◌*◌, nat_eq, int_lt, unsigned_abs}
use Rattle.std.specs.Bool.{beq}
use Rattle.std.specs.Int.{int_min}
use Rattle.std.specs.Ordering.{int_eq, then_cmp, on, flip_args, nat_cmp, int_cmp, bool_cmp}
use Rattle.std.specs.declared.cmp.Ordering.{Ordering}

-- a coefficient of sign and magnitude, times ten to the exponent
pub record DecimalParts : Type 0 where
  pub negative : Bool
  pub magnitude : ℕ
  pub exponent : ℤ

-- the magnitude is below 2^127, and the exponent from -2^31 to 2^31-1
abbrev pub IsDecimal : DecimalParts → Type 0
IsDecimal d = (d.magnitude < 2 ^ 127) × (neg_ℤ (pos (2 ^ 31)) ≤ℤ d.exponent) × (d.exponent <ℤ pos (2 ^ 31))

-- sign, magnitude and exponent agree
abbrev pub decimal_same : DecimalParts → DecimalParts → Bool
decimal_same d e = beq d.negative e.negative && nat_eq d.magnitude e.magnitude && int_eq d.exponent e.exponent

-- by exponent, then a minus first, then by magnitude
abbrev pub decimal_cmp : DecimalParts → DecimalParts → Ordering
decimal_cmp = then_cmp (then_cmp (on (λ d. d.exponent) int_cmp) (flip_args (on (λ d. d.negative) bool_cmp))) (on (λ d. d.magnitude) nat_cmp)

-- a coefficient of sign and magnitude
abbrev pub signed : Bool → ℕ → ℤ
signed negative magnitude = cond negative (neg_ℤ (pos magnitude)) (pos magnitude)

-- the magnitude as it is written at an exponent that isn't above the decimal's own
abbrev pub magnitude_at : ℤ → DecimalParts → ℕ
magnitude_at exponent d = d.magnitude * 10 ^ unsigned_abs (d.exponent -ℤ exponent)

-- these coefficients added up, at an exponent; a sum of zero has a minus where both have one
abbrev pub sum_at : ℤ → Bool → ℕ → Bool → ℕ → DecimalParts
sum_at exponent negative magnitude negative' magnitude' = record {
  negative = cond (int_eq sum (pos 0)) (negative && negative') (int_lt sum (pos 0));
  magnitude = unsigned_abs sum;
  exponent = exponent;
}
  where
    sum : ℤ
    sum = signed negative magnitude +ℤ signed negative' magnitude'

-- the exact sum, at the smaller exponent
abbrev pub decimal_sum : DecimalParts → DecimalParts → DecimalParts
decimal_sum d e = sum_at exponent d.negative (magnitude_at exponent d) e.negative (magnitude_at exponent e)
  where
    exponent : ℤ
    exponent = int_min d.exponent e.exponent
