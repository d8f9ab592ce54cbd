-- Decimals as tokens, behind the sign (Ion 1.0, "Ion Text Encoding" and its grammar, decimals). Floats have the same forms, with `e` in place of `d`.
-- Octets stand as numbers: 43 is `+`, 45 `-`, 46 `.`, 68 and 100 `D` and `d`, 69 and 101 `E` and `e`.
use Rattle.std.specs.Prelude.{ℕ, ℤ, ◌≡◌, ◌^◌, ◌<◌, ◌⊎◌, Bool, true, false, List, [], ◌∷◌, ◌++◌, length, min, pos, neg_ℤ, ◌-ℤ◌, ◌≤ℤ◌, ◌<ℤ◌}
use Rattle.ion_scalar.specs.Names.Below.{Tail}
use Rattle.ion_scalar.specs.text.Ints.{IsDigits, IsWholePart, continued, digits_in, number}

-- the int of a sign and a magnitude
abbrev pub signed : Bool → ℕ → ℤ
signed true n = neg_ℤ (pos n)
signed false n = pos n

-- digits without `_`: as many as octets
abbrev pub IsPlain : List ℕ → Type 0
IsPlain os = IsDigits 10 os × (length (digits_in os) ≡ length os)

-- a sign or none, and such digits
abbrev pub IsSigned : List ℕ → Bool → ℕ → Type 0
IsSigned [] below n = ⊥
IsSigned (c ∷ os) below n =
    ((c ≡ 45) × (below ≡ true) × IsPlain os × (n ≡ number 10 os))
    ⊎ (((c ≡ 43) × (below ≡ false) × IsPlain os × (n ≡ number 10 os))
    ⊎ ((below ≡ false) × IsPlain (c ∷ os) × (n ≡ number 10 (c ∷ os))))

-- the letter in front of an exponent: of a decimal, or of a float
abbrev pub IsLetter : Bool → ℕ → Type 0
IsLetter false c = (c ≡ 100) ⊎ (c ≡ 68)
IsLetter true c = (c ≡ 101) ⊎ (c ≡ 69)

-- the letter of a decimal or of a float, and behind it a sign or none and digits
abbrev pub IsExponent : List ℕ → Bool → Bool → ℕ → Type 0
IsExponent [] float below n = ⊥
IsExponent (c ∷ os) float below n = IsLetter float c × IsSigned os below n

-- nothing, as a decimal may have, or an exponent
abbrev pub IsEnd : List ℕ → Bool → Bool → ℕ → Type 0
IsEnd rest float below n = ((rest ≡ []) × (float ≡ false) × (below ≡ false) × (n ≡ 0)) ⊎ IsExponent rest float below n

-- behind a point: digits or none, an exponent or none
pub record IsFraction (octets fraction : List ℕ) (float below : Bool) (n : ℕ) : Type 0 where
  pub rest : List ℕ
  pub cut : octets ≡ fraction ++ rest
  pub digits : (fraction ≡ []) ⊎ IsDigits 10 fraction
  pub exponent : IsEnd rest float below n

-- behind the whole part: a point and such, or an exponent alone
abbrev pub IsTail : List ℕ → List ℕ → Bool → Bool → ℕ → Type 0
IsTail [] fraction float below n = ⊥
IsTail (c ∷ os) fraction float below n = ((c ≡ 46) × IsFraction os fraction float below n) ⊎ ((fraction ≡ []) × IsExponent (c ∷ os) float below n)

-- the magnitude is all the digits, the exponent the written one less the number of fraction digits
pub record IsDecimalBody (float : Bool) (body : List ℕ) (magnitude : ℕ) (exponent : ℤ) : Type 0 where
  pub whole : List ℕ
  pub tail : List ℕ
  pub fraction : List ℕ
  pub below : Bool
  pub written : ℕ
  pub octets : body ≡ whole ++ tail
  pub is_whole : IsWholePart whole
  pub is_tail : IsTail tail fraction float below written
  pub digits : magnitude ≡ number 10 (whole ++ fraction)
  pub power : exponent ≡ signed below written -ℤ pos (length (digits_in fraction))

-- the exponents that are kept
abbrev pub IsPower : ℤ → Type 0
IsPower e = (neg_ℤ (pos (2 ^ 31)) ≤ℤ e) × (e <ℤ pos (2 ^ 31))

-- what is read of such octets behind digits of the number `before`
pub record Shows (Is : List ℕ → Bool → Bool → ℕ → Type 0) (before : ℕ) (t : Tail) : Type 0 where
  pub fraction : List ℕ
  pub exponent : ℕ
  pub is : Is fraction t.float t.below exponent
  pub coefficient : t.value ≡ min (continued 10 before fraction) (2 ^ 127)
  pub digits : t.count ≡ length (digits_in fraction)
  pub bounded : t.written ≡ min exponent (2 ^ 127)

-- a magnitude and an exponent that are kept
abbrev pub Kept : ℕ × ℤ → Type 0
Kept x = (x.0 < 2 ^ 127) × (neg_ℤ (pos (2 ^ 31)) ≤ℤ x.1) × (x.1 <ℤ pos (2 ^ 31))
