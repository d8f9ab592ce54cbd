-- Number tokens: which octets spell which number, and what each answer of reading one says.
use Rattle.std.specs.Prelude.{ℕ, ℤ, ◌≡◌, Bool, true, false, List, ◌++◌, pos, ◌-ℤ◌, Result, Ok, Err, if◌then◌else◌}
use Rattle.ion_scalar.specs.Names.Below.{Float, IsDecimal, IsTimestamp, IsWhole, Malformed, Number, Reason, ShortNumber, TimestampParts, TooLarge, minus}
use Rattle.ion_scalar.specs.text.Decimals.{IsDecimalBody, signed}
use Rattle.ion_scalar.specs.text.Ints.{IsMagnitude}
use Rattle.ion_scalar.specs.text.Timestamps.{IsShort, IsTimestampToken}

-- what the octets behind a sign are with it: the int `-0` is 0, and a decimal keeps the sign of a zero
abbrev pub IsBehind : Bool → List ℕ → Number → Type 0
IsBehind negative body (Number.Int z) = (n : ℕ) × IsMagnitude body n × (z ≡ signed negative n)
IsBehind negative body (Number.Timestamp t) = ⊥
IsBehind negative body (Number.Decimal d) = (d.negative ≡ negative) × IsDecimalBody false body d.magnitude d.exponent

-- a float with an exponent, behind the sign
pub record IsFloatBody (body : List ℕ) : Type 0 where
  pub magnitude : ℕ
  pub exponent : ℤ
  pub is : IsDecimalBody true body magnitude exponent

-- the numbers that are kept
abbrev pub Fits : Number → Type 0
Fits (Number.Int z) = IsWhole z
Fits (Number.Decimal d) = IsDecimal d
Fits (Number.Timestamp t) = IsShort t.precision

-- the decimal of a coefficient and a written exponent, with so many fraction digits
abbrev pub decimal_read : Bool → ℕ → Bool → ℕ → ℕ → Number
decimal_read negative magnitude below written count = Number.Decimal
    (record { negative = negative; magnitude = magnitude; exponent = signed below written -ℤ pos count })

-- a number of these parts, within the bounds
abbrev pub HasParts : ShortNumber → Number → Type 0
HasParts short x = (x ≡ (if short.is_decimal
    then Number.Decimal (record { negative = short.negative; magnitude = short.magnitude; exponent = short.exponent })
    else Number.Int (signed short.negative short.magnitude))) × Fits x

-- what an answer says of the octets behind a sign: a number, one that is too large, a float, or neither
abbrev pub ReadsBehind : Bool → List ℕ → Result Number Reason → Type 0
ReadsBehind negative body (Ok x) = IsBehind negative body x × Fits x
ReadsBehind negative body (Err TooLarge) = (x : Number) × IsBehind negative body x × (Fits x → ⊥)
ReadsBehind negative body (Err Malformed) = ((x : Number) → IsBehind negative body x → ⊥) × (IsFloatBody body → ⊥)
ReadsBehind negative body (Err Float) = IsFloatBody body
ReadsBehind negative body (Err _) = ⊥

-- a whole token and the int or decimal that it spells
pub record IsNumeral (token : List ℕ) (number : Number) : Type 0 where
  pub negative : Bool
  pub body : List ℕ
  pub octets : token ≡ minus negative ++ body
  pub is : IsBehind negative body number

-- a float with an exponent
pub record IsFloat (token : List ℕ) : Type 0 where
  pub negative : Bool
  pub body : List ℕ
  pub octets : token ≡ minus negative ++ body
  pub is : IsFloatBody body

-- what an answer says of a token as an int or a decimal: one, one too large, a float, or neither
abbrev pub ReadsNumeral : List ℕ → Result Number Reason → Type 0
ReadsNumeral token (Ok x) = IsNumeral token x × Fits x
ReadsNumeral token (Err TooLarge) = (x : Number) × IsNumeral token x × (Fits x → ⊥)
ReadsNumeral token (Err Malformed) = ((x : Number) → IsNumeral token x → ⊥) × (IsFloat token → ⊥)
ReadsNumeral token (Err Float) = IsFloat token
ReadsNumeral token (Err _) = ⊥

-- a whole token and the number that it spells, however large, and whether or not there is such a day and time
abbrev pub IsNumber : List ℕ → Number → Type 0
IsNumber token (Number.Timestamp t) = IsTimestampToken token t
IsNumber token x = IsNumeral token x

-- there is such a day and time
abbrev pub IsThere : Number → Type 0
IsThere (Number.Timestamp t) = IsTimestamp t
IsThere _ = Unit {0}

-- what each answer of reading a token says: the number; `TooLarge` for one that is too large, whether or not it is there; `Float` for the
-- forms of a float; `Malformed` for a day or time that isn't there, and for a token of no form
abbrev pub ReadsNumber : List ℕ → Result Number Reason → Type 0
ReadsNumber token (Ok x) = IsNumber token x × Fits x × IsThere x
ReadsNumber token (Err TooLarge) = (x : Number) × IsNumber token x × (Fits x → ⊥)
ReadsNumber token (Err Malformed) = ((x : Number) → IsNumber token x → Fits x × (IsThere x → ⊥)) × (IsFloat token → ⊥)
ReadsNumber token (Err Float) = IsFloat token
ReadsNumber token (Err _) = ⊥

-- the same of the forms of a timestamp alone
abbrev pub ReadsTimestamp : List ℕ → Result Number Reason → Type 0
ReadsTimestamp token (Ok (Number.Timestamp t)) = IsTimestampToken token t × IsTimestamp t
ReadsTimestamp token (Ok _) = ⊥
ReadsTimestamp token (Err TooLarge) = (t : TimestampParts) × IsTimestampToken token t × (IsShort t.precision → ⊥)
ReadsTimestamp token (Err Malformed) = (t : TimestampParts) → IsTimestampToken token t → IsShort t.precision × (IsTimestamp t → ⊥)
ReadsTimestamp token (Err _) = ⊥
