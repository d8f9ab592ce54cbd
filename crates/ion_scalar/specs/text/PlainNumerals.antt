-- Ints and decimals of few plain digits: what tells them apart before their number is read (Ion 1.0, "Text Encoding").
use Rattle.std.specs.Prelude.{◌≡◌, ◌≢◌, ℕ, ◌<◌, ◌≤◌, ◌⊎◌, ◌++◌, Bool, List, length, get_or}
use Rattle.ion_scalar.specs.Names.{BeginsWithMinus, minus}

-- `0` to `9`
abbrev pub IsPlainDigit : ℕ → Type 0
IsPlainDigit c = (48 ≤ c) × (c ≤ 57)

-- The first octets, so many, are the digits of a whole part, and maybe a point and digits or none behind them.
pub record PlainNumeral (os : List ℕ) (count : ℕ) : Type 0 where
  pub whole : ℕ
  pub some : 0 < whole
  pub few : count ≤ 19
  pub within : count ≤ length os
  pub digits : (i : ℕ) → i < whole → IsPlainDigit (get_or os i 0)
  pub first : 1 < whole → get_or os 0 0 ≢ 48
  pub behind : (whole ≡ count)
      ⊎ ((whole < count) × (get_or os whole 0 ≡ 46) × ((i : ℕ) → whole < i → i < count → IsPlainDigit (get_or os i 0)))

-- The same, where the whole part has so many.
abbrev pub HasNumeral : List ℕ → ℕ → ℕ → Type 0
HasNumeral os whole count = (h : PlainNumeral os count) × (h.whole ≡ whole)

-- A token that is such octets behind a sign or none.
pub record PlainToken (token : List ℕ) (whole : ℕ) : Type 0 where
  pub negative : Bool
  pub body : List ℕ
  pub sign : BeginsWithMinus negative token
  pub octets : token ≡ minus negative ++ body
  pub numeral : HasNumeral body whole (length body)
