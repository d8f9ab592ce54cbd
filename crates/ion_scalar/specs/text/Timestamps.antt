-- Timestamps as tokens, by their places (Ion 1.0, "Timestamps").
-- Octets stand as numbers: 43 is `+`, 45 `-`, 46 `.`, 48 to 57 the digits, 58 `:`, 84 `T`, 90 `Z`.
use Rattle.std.specs.Prelude.{ℕ, ℤ, ◌≡◌, ◌+◌, ◌-◌, ◌*◌, ◌^◌, ◌<◌, ◌≤◌, ◌⊎◌, ◌==◌, if◌then◌else◌, List, ◌++◌, length, min, drop, slice_index, pos, neg_ℤ, Option, Some, None}
use Rattle.ion_scalar.specs.Names.Below.{Local, Precision, Stamp, TimestampParts, last_hour, last_minute, most_digits}
use Rattle.ion_scalar.specs.text.Decimals.{IsPlain}
use Rattle.ion_scalar.specs.text.Ints.{number}

-- at a place stands this octet
abbrev pub IsAt : List ℕ → ℕ → ℕ → Type 0
IsAt os at c = (at < length os) × (slice_index os at ≡ c)

-- at a place stands a digit
abbrev pub IsDigitAt : List ℕ → ℕ → Type 0
IsDigitAt os at = (at < length os) × (48 ≤ slice_index os at) × (slice_index os at ≤ 57)

-- two digits from a place on, and their number
abbrev pub AreTwoAt : List ℕ → ℕ → Type 0
AreTwoAt os at = IsDigitAt os at × IsDigitAt os (at + 1)

-- the number of two digits from a place on
abbrev pub two : List ℕ → ℕ → ℕ
two os at = 10 * (slice_index os at - 48) + (slice_index os (at + 1) - 48)

-- four digits, and their number
abbrev pub AreFourAt : List ℕ → ℕ → Type 0
AreFourAt os at = AreTwoAt os at × AreTwoAt os (at + 2)

-- the number of four digits from a place on
abbrev pub four : List ℕ → ℕ → ℕ
four os at = 100 * two os at + two os (at + 2)

-- `YYYY-MM` at the front
abbrev pub BeginsWithMonth : List ℕ → Type 0
BeginsWithMonth os = AreFourAt os 0 × IsAt os 4 45 × AreTwoAt os 5

-- `YYYY-MM-DD` at the front
abbrev pub BeginsWithDay : List ℕ → Type 0
BeginsWithDay os = BeginsWithMonth os × IsAt os 7 45 × AreTwoAt os 8

-- `YYYY-MM-DDThh:mm` at the front
abbrev pub BeginsWithMinute : List ℕ → Type 0
BeginsWithMinute os = BeginsWithDay os × IsAt os 10 84 × AreTwoAt os 11 × IsAt os 13 58 × AreTwoAt os 14

-- `YYYY-MM-DDThh:mm:ss` at the front
abbrev pub BeginsWithSecond : List ℕ → Type 0
BeginsWithSecond os = BeginsWithMinute os × IsAt os 16 58 × AreTwoAt os 17

-- `Z`, or a sign and `hh:mm` from 00:00 to 23:59
abbrev pub IsOffsetToken : List ℕ → Type 0
IsOffsetToken os =
    ((length os ≡ 1) × IsAt os 0 90)
    ⊎ ((length os ≡ 6) × (IsAt os 0 43 ⊎ IsAt os 0 45) × AreTwoAt os 1 × IsAt os 3 58 × AreTwoAt os 4 × (two os 1 ≤ last_hour) × (two os 4 ≤ last_minute))

-- the minutes of an offset's `hh:mm`, without its sign
abbrev pub offset_minutes : List ℕ → ℕ
offset_minutes os = two os 1 * 60 + two os 4

-- the offset in minutes; `-00:00` is the unknown one
abbrev pub offset_read : List ℕ → Option ℤ
offset_read os =
    if slice_index os 0 == 90 then Some (pos 0)
    else if slice_index os 0 == 43 then Some (pos (offset_minutes os))
    else if offset_minutes os == 0 then None
    else Some (neg_ℤ (pos (offset_minutes os)))

-- the local fields of the minute at the front
abbrev pub minute_read : List ℕ → Local
minute_read os = record { year = four os 0; month = two os 5; day = two os 8; hour = two os 11; minute = two os 14; second = 0; fraction = 0 }

-- a day, of which nothing more is known
abbrev pub dated : Precision → ℕ → ℕ → ℕ → TimestampParts
dated precision year month day =
    record { local = record { year = year; month = month; day = day; hour = 0; minute = 0; second = 0; fraction = 0 }; precision = precision; offset = None }

-- the minute at the front of a token, with a second, a fraction of it, and an offset
abbrev pub timed : List ℕ → Precision → ℕ → ℕ → List ℕ → TimestampParts
timed os precision second fraction offset =
    record { local = record (minute_read os) { second = second; fraction = fraction }; precision = precision; offset = offset_read offset }

-- `YYYYT`
abbrev pub IsYear : List ℕ → Type 0
IsYear os = (length os ≡ 5) × AreFourAt os 0 × IsAt os 4 84

-- `YYYY-MMT`
abbrev pub IsMonth : List ℕ → Type 0
IsMonth os = (length os ≡ 8) × BeginsWithMonth os × IsAt os 7 84

-- `YYYY-MM-DD` or `YYYY-MM-DDT`
abbrev pub IsDay : List ℕ → Type 0
IsDay os = BeginsWithDay os × ((length os ≡ 10) ⊎ ((length os ≡ 11) × IsAt os 10 84))

-- what stands behind the point of a second: digits and an offset
pub record IsFractionEnd (os digits rest : List ℕ) : Type 0 where
  pub cut : os ≡ digits ++ rest
  pub plain : IsPlain digits
  pub offset : IsOffsetToken rest

-- a token and the parts that it spells, whether or not there is such a day and time
pub data IsTimestampToken (os : List ℕ) : TimestampParts → Type 0 where
  year : IsYear os → IsTimestampToken os (dated Precision.Year (four os 0) 1 1)
  month : IsMonth os → IsTimestampToken os (dated Precision.Month (four os 0) (two os 5) 1)
  day : IsDay os → IsTimestampToken os (dated Precision.Day (four os 0) (two os 5) (two os 8))
  minute : BeginsWithMinute os → IsOffsetToken (drop 16 os) → IsTimestampToken os (timed os Precision.Minute 0 0 (drop 16 os))
  second : BeginsWithSecond os → IsOffsetToken (drop 19 os) → IsTimestampToken os (timed os Precision.Second (two os 17) 0 (drop 19 os))
  fraction : BeginsWithSecond os → IsAt os 19 46 → (digits rest : List ℕ) → IsFractionEnd (drop 20 os) digits rest
      → IsTimestampToken os (timed os (Precision.Fraction (length digits)) (two os 17) (number 10 digits) rest)

-- parts as they are read: 39 fraction digits stand for all more, and 2^127 for a fraction of that or more
abbrev pub read_precision : Precision → Precision
read_precision (Precision.Fraction digits) = Precision.Fraction (min digits (most_digits + 1))
read_precision p = p

abbrev pub read_local : Local → Local
read_local l = record l { fraction = min l.fraction (2 ^ 127) }

-- the parts of a timestamp as they are read, its fraction and its digits capped
abbrev pub stamp : TimestampParts → Stamp
stamp t = record { local = read_local t.local; precision = read_precision t.precision; offset = t.offset }

-- at most 38 fraction digits
abbrev pub IsShort : Precision → Type 0
IsShort (Precision.Fraction digits) = digits ≤ most_digits
IsShort _ = Unit {0}
