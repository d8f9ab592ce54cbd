-- Numbers as tokens (Ion 1.0, "Ion Text Encoding" and its grammar, int literals). Octets stand as numbers: 48 is `0`, 45 `-`, 95 `_`.
use Rattle.std.specs.Prelude.{ℕ, ◌≡◌, ◌≢◌, ◌<◌, ◌≤◌, ◌⊎◌, ◌==◌, not, Bool, false, IsTrue, ◌↔◌, List, [], ◌∷◌, map, slice_index}
use Rattle.std.specs.List.{filter}
use Rattle.std.specs.Char.{digit_value}
pub use Rattle.ion_atoms.specs.Texts.{minus}
use Rattle.ion_scalar.specs.binary.Fields.{positional}

-- digits of a base with at most one `_` between two of them
abbrev pub IsDigits : ℕ → List ℕ → Type 0
IsDigits base [] = ⊥
IsDigits base (c ∷ []) = digit_value c < base
IsDigits base (c ∷ d ∷ os) = (digit_value c < base) × (IsDigits base (d ∷ os) ⊎ ((d ≡ 95) × IsDigits base os))

-- neither a digit nor `_` and a digit
abbrev pub GoesNotOn : ℕ → List ℕ → Type 0
GoesNotOn base [] = Unit {0}
GoesNotOn base (c ∷ []) = base ≤ digit_value c
GoesNotOn base (c ∷ d ∷ os) = (base ≤ digit_value c) × (c ≡ 95 → base ≤ digit_value d)

-- the first is no digit
abbrev pub BeginsWithNone : ℕ → List ℕ → Type 0
BeginsWithNone base [] = Unit {0}
BeginsWithNone base (c ∷ os) = base ≤ digit_value c

-- the digits, without `_`
abbrev pub digits_in : List ℕ → List ℕ
digits_in os = map digit_value (filter (λ c. not (c == 95)) os)

-- their number
abbrev pub number : ℕ → List ℕ → ℕ
number base os = positional base (digits_in os)

-- their number behind other digits, whose number is `before`
abbrev pub continued : ℕ → ℕ → List ℕ → ℕ
continued base before os = positional base (before ∷ digits_in os)

-- `0`, or digits that begin with 1 to 9
abbrev pub IsWholePart : List ℕ → Type 0
IsWholePart os = (os ≡ 48 ∷ []) ⊎ (IsDigits 10 os × (slice_index os 0 ≢ 48))

-- whether the octets begin with `-`
abbrev pub BeginsWithMinus : Bool → List ℕ → Type 0
BeginsWithMinus negative [] = negative ≡ false
BeginsWithMinus negative (c ∷ os) = IsTrue negative ↔ (c ≡ 45)

-- `0`, the letter of the base in either case, and digits
abbrev pub IsRadix : ℕ → ℕ → ℕ → List ℕ → ℕ → Type 0
IsRadix base lower upper [] n = ⊥
IsRadix base lower upper (c ∷ []) n = ⊥
IsRadix base lower upper (c ∷ x ∷ ds) n = (c ≡ 48) × ((x ≡ lower) ⊎ (x ≡ upper)) × IsDigits base ds × (n ≡ number base ds)

-- an int's octets behind the sign: decimal, or hexadecimal behind `0x` or `0X`, or binary behind `0b` or `0B`
abbrev pub IsMagnitude : List ℕ → ℕ → Type 0
IsMagnitude body n = (IsWholePart body × (n ≡ number 10 body)) ⊎ (IsRadix 16 120 88 body n ⊎ IsRadix 2 98 66 body n)

-- `0` and the letter of this base
abbrev pub HasBase : ℕ → List ℕ → Type 0
HasBase base [] = ⊥
HasBase base (c ∷ []) = ⊥
HasBase base (c ∷ x ∷ ds) = (c ≡ 48) × (((base ≡ 16) × ((x ≡ 120) ⊎ (x ≡ 88))) ⊎ ((base ≡ 2) × ((x ≡ 98) ⊎ (x ≡ 66))))
