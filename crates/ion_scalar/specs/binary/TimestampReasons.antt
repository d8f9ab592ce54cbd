-- Which bodies are too large for a timestamp: those of which a part is, and each part before it ends and lies in its range.
use Rattle.std.specs.Prelude.{◌≡◌, ◌⊎◌, ℕ, ◌^◌, ◌<◌, ◌≤◌, Bool, true, List, ◌++◌, Result, Ok, Err}
use Rattle.ion_scalar.specs.Names.Below.{Malformed, Reason, TimestampParts, TooLarge, farthest_offset, last_hour, last_minute, last_month, last_second, last_year, month_length, most_digits}
use Rattle.ion_scalar.specs.binary.Fields.{VarInt, int_magnitude}
use Rattle.ion_scalar.specs.binary.Reads.{Reaches, ReachesInt}
use Rattle.ion_scalar.specs.binary.Timestamp.{Begins, IsTimestampBody}

-- a part that reaches 2^63, or one in its range with something too large behind it
abbrev pub IsLargePart : ℕ → ℕ → (ℕ → List ℕ → Type 0) → List ℕ → Type 0
IsLargePart least most IsLarge octets = Reaches 0 octets ⊎ Begins least most IsLarge octets

-- more than 38 digits, or a coefficient of 2^127 or more
pub record IsLargeFraction (octets : List ℕ) : Type 0 where
  pub exponent : List ℕ
  pub coefficient : List ℕ
  pub below : Bool
  pub power : ℕ
  pub cut : octets ≡ exponent ++ coefficient
  pub is : VarInt exponent below power
  pub large : ((below ≡ true) × (most_digits < power)) ⊎ (2 ^ 127 ≤ int_magnitude coefficient)

-- behind the second stands an exponent that reaches 2^63, or a fraction that is too large
abbrev pub IsLargeBehindSecond : List ℕ → Type 0
IsLargeBehindSecond octets = ReachesInt octets ⊎ IsLargeFraction octets

-- behind the minute stands a second that is too large, or one with such a part behind it
abbrev pub IsLargeBehindMinute : List ℕ → Type 0
IsLargeBehindMinute octets = IsLargePart 0 last_second (λ second rest. IsLargeBehindSecond rest) octets

-- behind the hour stands a minute that is too large, or one with such a part behind it
abbrev pub IsLargeBehindHour : List ℕ → Type 0
IsLargeBehindHour octets = IsLargePart 0 last_minute (λ minute rest. IsLargeBehindMinute rest) octets

-- behind the day stands an hour that is too large, or one with such a part behind it
abbrev pub IsLargeBehindDay : List ℕ → Type 0
IsLargeBehindDay octets = IsLargePart 0 last_hour (λ hour rest. IsLargeBehindHour rest) octets

-- behind the month stands a day that is too large, or one with such a part behind it
abbrev pub IsLargeBehindMonth : ℕ → ℕ → List ℕ → Type 0
IsLargeBehindMonth year month octets = IsLargePart 1 (month_length year month) (λ day rest. IsLargeBehindDay rest) octets

-- behind the year stands a month that is too large, or one with such a part behind it
abbrev pub IsLargeBehindYear : ℕ → List ℕ → Type 0
IsLargeBehindYear year octets = IsLargePart 1 last_month (λ month rest. IsLargeBehindMonth year month rest) octets

-- the year is too large, or a part behind it is
abbrev pub AreLargeFields : List ℕ → Type 0
AreLargeFields octets = IsLargePart 1 last_year IsLargeBehindYear octets

-- an offset in range, and fields of which one is too large
pub record HasLargeFields (body : List ℕ) : Type 0 where
  pub ahead : List ℕ
  pub fields : List ℕ
  pub below : Bool
  pub minutes : ℕ
  pub cut : body ≡ ahead ++ fields
  pub is : VarInt ahead below minutes
  pub range : minutes ≤ farthest_offset
  pub large : AreLargeFields fields

-- the offset reaches 2^63, or one of the fields is too large
abbrev pub IsLargeBody : List ℕ → Type 0
IsLargeBody body = ReachesInt body ⊎ HasLargeFields body

-- what each answer of reading a body says: the timestamp; `TooLarge` for a body that is; `Malformed` for one that is neither
abbrev pub ReadsTimestampBody : List ℕ → Result TimestampParts Reason → Type 0
ReadsTimestampBody body (Ok t) = IsTimestampBody body t
ReadsTimestampBody body (Err TooLarge) = IsLargeBody body
ReadsTimestampBody body (Err Malformed) = ((t : TimestampParts) → IsTimestampBody body t → ⊥) × (IsLargeBody body → ⊥)
ReadsTimestampBody body (Err _) = ⊥
