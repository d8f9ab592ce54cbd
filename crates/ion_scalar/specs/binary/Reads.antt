-- What each answer of a reading call says of the octets that it was given.
use Rattle.std.specs.Prelude.{◌≡◌, ◌≢◌, ◌⊎◌, ℕ, ◌^◌, ◌<◌, ◌≤◌, List, [], ◌∷◌, ◌++◌, length, take, Result, Ok, Err}
use Rattle.ion_scalar.specs.Names.Below.{DecimalParts, Incomplete, IsDecimal, Malformed, Reason, Signed, TooLarge}
use Rattle.ion_scalar.specs.binary.Decimal.{IsDecimalField}
use Rattle.ion_scalar.specs.binary.Fields.{Digits128, VarInt, VarUInt, positional, seven_bits, six_bits}

-- behind the digit `front`, the seven bits of octets reach 2^63 with one that no octet before it ends
pub record Reaches (front : ℕ) (octets : List ℕ) : Type 0 where
  pub digits : List ℕ
  pub octet : ℕ
  pub rest : List ℕ
  pub cut : octets ≡ digits ++ octet ∷ rest
  pub small : Digits128 digits
  pub large : 2 ^ 63 ≤ positional 128 (front ∷ digits ++ seven_bits octet ∷ [])

-- octets of which none ends, below 2^63 behind that digit
pub record GoesOn (front : ℕ) (octets : List ℕ) : Type 0 where
  pub small : Digits128 octets
  pub bound : positional 128 (front ∷ octets) < 2 ^ 63

-- octets that begin with a VarUInt of `used` octets
pub record BeginsWith (octets : List ℕ) (n used : ℕ) : Type 0 where
  pub within : used ≤ length octets
  pub is : VarUInt (take used octets) n

-- what an answer says of a VarUInt: it begins there, or reaches 2^63, or has no end
abbrev pub ReadsVarUInt : List ℕ → Result (ℕ × ℕ) Reason → Type 0
ReadsVarUInt octets (Ok read) = BeginsWith octets read.0 read.1
ReadsVarUInt octets (Err TooLarge) = Reaches 0 octets
ReadsVarUInt octets (Err Incomplete) = GoesOn 0 octets
ReadsVarUInt octets (Err _) = ⊥

-- octets that begin with a VarInt of `used` octets
pub record BeginsWithInt (octets : List ℕ) (signed : Signed) (used : ℕ) : Type 0 where
  pub within : used ≤ length octets
  pub is : VarInt (take used octets) signed.negative signed.magnitude

-- the same of a VarInt, whose first octet doesn't end it
abbrev pub ReachesInt : List ℕ → Type 0
ReachesInt [] = ⊥
ReachesInt (octet ∷ rest) = (octet < 128) × Reaches (six_bits octet) rest

-- nothing, or the beginning of a VarInt that no octet ends and that stays below 2^63
abbrev pub GoesOnInt : List ℕ → Type 0
GoesOnInt [] = Unit {0}
GoesOnInt (octet ∷ rest) = (octet < 128) × GoesOn (six_bits octet) rest

-- what an answer says of a VarInt: it begins there, or reaches 2^63, or has no end
abbrev pub ReadsVarInt : List ℕ → Result (Signed × ℕ) Reason → Type 0
ReadsVarInt octets (Ok read) = BeginsWithInt octets read.0 read.1
ReadsVarInt octets (Err TooLarge) = ReachesInt octets
ReadsVarInt octets (Err Incomplete) = GoesOnInt octets
ReadsVarInt octets (Err _) = ⊥

-- of the body of a decimal: the decimal that it is, which is kept; `TooLarge` for one that is not kept, and for an exponent that reaches 2^63;
-- `Malformed` for an exponent that has no end
abbrev pub ReadsDecimalBody : List ℕ → Result DecimalParts Reason → Type 0
ReadsDecimalBody body (Ok d) = IsDecimalField body d × IsDecimal d
ReadsDecimalBody body (Err TooLarge) = ((d : DecimalParts) × IsDecimalField body d × (IsDecimal d → ⊥)) ⊎ ReachesInt body
ReadsDecimalBody body (Err Malformed) = (body ≢ []) × GoesOnInt body
ReadsDecimalBody body (Err _) = ⊥
