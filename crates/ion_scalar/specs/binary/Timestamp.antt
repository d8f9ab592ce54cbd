-- The body of a timestamp in binary (Ion 1.0, "Ion Binary Encoding", timestamp): an offset, which is a VarInt of minutes, then in UTC year, month,
-- day, hour, minute and second, each a VarUInt, then a fraction of the second: an exponent of ten, which is a VarInt, and a coefficient, which is an
-- Int of the rest. Trailing parts may be absent, but offset and year stand there, and a minute behind each hour.
use Rattle.std.specs.Prelude.{◌≡◌, ◌⊎◌, ℕ, ℤ, pos, ◌^◌, ◌<◌, ◌≤◌, Bool, true, false, List, [], ◌∷◌, ◌++◌, drop, nat_le, nat_lt, ◌&&◌, ◌==◌, not, if◌then◌else◌, Option, Some, None, Result, Ok, Err}
use Rattle.ion_scalar.specs.Names.Below.{Date, IsTimestamp, Local, Malformed, Minute, Precision, Reason, Signed, TimestampParts, TooLarge, Utc, day_of, farthest_offset, instant, last_hour, last_minute, last_month, last_second, last_year, minute_number, minutes_ahead, month_length, most_digits}
use Rattle.ion_scalar.specs.binary.Fields.{VarInt, VarUInt, int_magnitude, int_negative, var_int, var_uint}
use Rattle.ion_scalar.specs.binary.Shifted.{moved}
use Rattle.ion_scalar.specs.text.Decimals.{signed}

-- a day, of which nothing more is known
abbrev pub day_known : Precision → Date → Utc
day_known precision date =
    record { minute = record { date = date; hour = 0; minute = 0 }; second = 0; fraction = 0; precision = precision }

-- a minute, a second and a fraction, known to that precision
abbrev pub time_known : Precision → Minute → ℕ → ℕ → Utc
time_known precision minute second fraction =
    record { minute = minute; second = second; fraction = fraction; precision = precision }

-- the minute of a day
abbrev pub minute_of : Date → ℕ → ℕ → Minute
minute_of date hour minute = record { date = date; hour = hour; minute = minute }

-- octets that begin with a VarUInt in that range, behind which something stands
pub record Begins (least most : ℕ) (Behind : ℕ → List ℕ → Type 0) (octets : List ℕ) : Type 0 where
  pub field : List ℕ
  pub rest : List ℕ
  pub number : ℕ
  pub cut : octets ≡ field ++ rest
  pub is : VarUInt field number
  pub range : (least ≤ number) × (number ≤ most)
  pub behind : Behind number rest

-- behind a part stands nothing, by which so much is known, or the next part in its range
abbrev pub EndsOr : Utc → ℕ → ℕ → (ℕ → List ℕ → Utc → Type 0) → List ℕ → Utc → Type 0
EndsOr known least most Behind octets utc =
    ((octets ≡ []) × (utc ≡ known)) ⊎ Begins least most (λ number rest. Behind number rest utc) octets

-- with the exponent -d the coefficient, 0 or more, has d digits; with any other it is 0, and there is no fraction
abbrev pub IsFractionOf : Bool → ℕ → List ℕ → Minute → ℕ → Utc → Type 0
IsFractionOf below power coefficient minute second utc =
    ((below ≡ true) × (1 ≤ power) × (power ≤ most_digits) × ((int_negative coefficient ≡ false) ⊎ (int_magnitude coefficient ≡ 0))
    × (int_magnitude coefficient < 10 ^ power)
    × (utc ≡ time_known (Precision.Fraction power) minute second (int_magnitude coefficient)))
    ⊎ (((below ≡ false) ⊎ (power ≡ 0)) × (int_magnitude coefficient ≡ 0) × (utc ≡ time_known Precision.Second minute second 0))

-- an exponent, and a coefficient that all the rest is
pub record IsSecondsFraction (minute : Minute) (second : ℕ) (octets : List ℕ) (utc : Utc) : Type 0 where
  pub exponent : List ℕ
  pub coefficient : List ℕ
  pub below : Bool
  pub power : ℕ
  pub cut : octets ≡ exponent ++ coefficient
  pub is : VarInt exponent below power
  pub fraction : IsFractionOf below power coefficient minute second utc

-- nothing behind a part, or the next one
abbrev pub IsBehindSecond : Minute → ℕ → List ℕ → Utc → Type 0
IsBehindSecond minute second octets utc =
    ((octets ≡ []) × (utc ≡ time_known Precision.Second minute second 0)) ⊎ IsSecondsFraction minute second octets utc

-- behind the minute nothing stands, or a second
abbrev pub IsBehindMinute : Minute → List ℕ → Utc → Type 0
IsBehindMinute minute = EndsOr (time_known Precision.Minute minute 0 0) 0 last_second (IsBehindSecond minute)

-- behind the hour a minute stands
abbrev pub IsBehindHour : Date → ℕ → List ℕ → Utc → Type 0
IsBehindHour date hour octets utc = Begins 0 last_minute (λ minute rest. IsBehindMinute (minute_of date hour minute) rest utc) octets

-- behind the day nothing stands, or an hour
abbrev pub IsBehindDay : Date → List ℕ → Utc → Type 0
IsBehindDay date = EndsOr (day_known Precision.Day date) 0 last_hour (IsBehindHour date)

-- behind the month nothing stands, or a day that the month has
abbrev pub IsBehindMonth : ℕ → ℕ → List ℕ → Utc → Type 0
IsBehindMonth year month =
    EndsOr (day_known Precision.Month (day_of year month 1)) 1 (month_length year month) (λ day. IsBehindDay (day_of year month day))

-- behind the year nothing stands, or a month
abbrev pub IsBehindYear : ℕ → List ℕ → Utc → Type 0
IsBehindYear year = EndsOr (day_known Precision.Year (day_of year 1 1)) 1 last_month (IsBehindMonth year)

-- these octets are the fields in UTC, from the year on
abbrev pub AreFields : List ℕ → Utc → Type 0
AreFields octets utc = Begins 1 last_year (λ year rest. IsBehindYear year rest utc) octets

-- the offset in minutes; -0 is the unknown one
abbrev pub offset_from : Bool → ℕ → Option ℤ
offset_from negative n = if negative && (n == 0) then None else Some (signed negative n)

-- below minute precision the offset isn't part of the value
abbrev pub kept_offset : Precision → Option ℤ → Option ℤ
kept_offset Precision.Year offset = None
kept_offset Precision.Month offset = None
kept_offset Precision.Day offset = None
kept_offset _ offset = offset

-- a whole body is that timestamp: it has the fields' instant and precision, and shows it by the offset
pub record IsTimestampBody (body : List ℕ) (t : TimestampParts) : Type 0 where
  pub ahead : List ℕ
  pub fields : List ℕ
  pub below : Bool
  pub minutes : ℕ
  pub utc : Utc
  pub cut : body ≡ ahead ++ fields
  pub is_ahead : VarInt ahead below minutes
  pub range : minutes ≤ farthest_offset
  pub are_fields : AreFields fields utc
  pub precision : t.precision ≡ utc.precision
  pub offset : t.offset ≡ kept_offset utc.precision (offset_from below minutes)
  pub at : instant t ≡ record { minute = pos (minute_number utc.minute); second = utc.second; fraction = utc.fraction }
  pub is : IsTimestamp t

-- How a body is judged: part by part, from left to right. A part is too large where its number is; it is malformed where it has no end, and where
-- its number is out of range.
abbrev pub in_range : ℕ → ℕ → Result (ℕ × ℕ) Reason → Result (ℕ × ℕ) Reason
in_range least most (Ok read) = if nat_le least read.0 && nat_le read.0 most then Ok read else Err Malformed
in_range least most (Err TooLarge) = Err TooLarge
in_range least most (Err _) = Err Malformed

-- a VarUInt in that range at the front: its number, and how many octets it takes
unfoldable pub read_field : ℕ → ℕ → List ℕ → Result (ℕ × ℕ) Reason
read_field least most octets = in_range least most (var_uint octets)

-- what stands behind a part
abbrev pub and_then : {X : Type 0} → List ℕ → (ℕ → List ℕ → Result X Reason) → Result (ℕ × ℕ) Reason → Result X Reason
and_then octets judge (Ok read) = judge read.0 (drop read.1 octets)
and_then octets judge (Err reason) = Err reason

-- nothing behind a part, or the next one
abbrev pub ends_or : Utc → ℕ → ℕ → (ℕ → List ℕ → Result Utc Reason) → List ℕ → Result Utc Reason
ends_or known least most judge [] = Ok known
ends_or known least most judge (octet ∷ rest) = and_then (octet ∷ rest) judge (read_field least most (octet ∷ rest))

-- the coefficient behind the exponent -d, and behind one that isn't below 0
abbrev pub read_digits : ℕ → Minute → ℕ → List ℕ → Result Utc Reason
read_digits digits minute second octets =
    if int_negative octets && nat_lt 0 (int_magnitude octets) then Err Malformed
    else if nat_lt (int_magnitude octets) (10 ^ digits) then Ok (time_known (Precision.Fraction digits) minute second (int_magnitude octets))
    else Err Malformed

-- behind an exponent that isn't below 0 the coefficient is to be 0, and there is no fraction
abbrev pub read_no_digits : Minute → ℕ → List ℕ → Result Utc Reason
read_no_digits minute second octets =
    if nat_lt 0 (int_magnitude octets) then Err Malformed else Ok (time_known Precision.Second minute second 0)

-- more than 38 digits are too many
unfoldable pub read_fraction : Minute → ℕ → Signed → List ℕ → Result Utc Reason
read_fraction minute second power octets =
    if power.negative && nat_lt most_digits power.magnitude then Err TooLarge
    else if not (nat_lt (int_magnitude octets) (2 ^ 127)) then Err TooLarge
    else if power.negative && nat_lt 0 power.magnitude then read_digits power.magnitude minute second octets
    else read_no_digits minute second octets

-- what stands behind the second, by what its exponent was read as
abbrev pub with_power : Minute → ℕ → List ℕ → Result (Signed × ℕ) Reason → Result Utc Reason
with_power minute second octets (Ok read) = read_fraction minute second read.0 (drop read.1 octets)
with_power minute second octets (Err TooLarge) = Err TooLarge
with_power minute second octets (Err _) = Err Malformed

unfoldable pub read_behind_second : Minute → ℕ → List ℕ → Result Utc Reason
read_behind_second minute second [] = Ok (time_known Precision.Second minute second 0)
read_behind_second minute second (octet ∷ rest) = with_power minute second (octet ∷ rest) (var_int (octet ∷ rest))

unfoldable pub read_behind_minute : Minute → List ℕ → Result Utc Reason
read_behind_minute minute octets = ends_or (time_known Precision.Minute minute 0 0) 0 last_second (read_behind_second minute) octets

unfoldable pub read_behind_hour : Date → ℕ → List ℕ → Result Utc Reason
read_behind_hour date hour octets = and_then octets (λ minute. read_behind_minute (minute_of date hour minute)) (read_field 0 last_minute octets)

unfoldable pub read_behind_day : Date → List ℕ → Result Utc Reason
read_behind_day date octets = ends_or (day_known Precision.Day date) 0 last_hour (read_behind_hour date) octets

unfoldable pub read_behind_month : ℕ → ℕ → List ℕ → Result Utc Reason
read_behind_month year month octets =
    ends_or (day_known Precision.Month (day_of year month 1)) 1 (month_length year month) (λ day. read_behind_day (day_of year month day)) octets

unfoldable pub read_behind_year : ℕ → List ℕ → Result Utc Reason
read_behind_year year octets = ends_or (day_known Precision.Year (day_of year 1 1)) 1 last_month (read_behind_month year) octets

unfoldable pub read_fields : List ℕ → Result Utc Reason
read_fields octets = and_then octets read_behind_year (read_field 1 last_year octets)

-- the offset that was read: malformed where it is a day or more, or has no end
abbrev pub near : Result (Signed × ℕ) Reason → Result (Option ℤ × ℕ) Reason
near (Ok read) = if nat_le read.0.magnitude farthest_offset then Ok (offset_from read.0.negative read.0.magnitude, read.1) else Err Malformed
near (Err TooLarge) = Err TooLarge
near (Err _) = Err Malformed

unfoldable pub read_offset : List ℕ → Result (Option ℤ × ℕ) Reason
read_offset octets = near (var_int octets)

-- the fields that the place's clock and calendar show in a minute
abbrev pub local_in : Utc → Minute → Local
local_in utc m =
    record { year = m.date.year; month = m.date.month; day = m.date.day; hour = m.hour; minute = m.minute; second = utc.second; fraction = utc.fraction }

-- the timestamp that shows a local minute; malformed where its year isn't one of 1 to 9999
abbrev pub shown_at : Utc → Option ℤ → Minute → Result TimestampParts Reason
shown_at utc offset m =
    if nat_le 1 m.date.year && nat_le m.date.year last_year then Ok (record { local = local_in utc m; precision = utc.precision; offset = offset })
    else Err Malformed

-- last, the local year is to be one of 1 to 9999
unfoldable pub shown : Option ℤ → Utc → Result TimestampParts Reason
shown offset utc =
    shown_at utc (kept_offset utc.precision offset) (moved utc.minute (minutes_ahead (kept_offset utc.precision offset)))

-- the timestamp that fields in UTC are by the offset, if they were read
abbrev pub shown_by : Option ℤ → Result Utc Reason → Result TimestampParts Reason
shown_by offset (Ok utc) = shown offset utc
shown_by offset (Err reason) = Err reason

-- the timestamp by the offset that was read, of the fields behind it
abbrev pub with_offset : List ℕ → Result (Option ℤ × ℕ) Reason → Result TimestampParts Reason
with_offset octets (Ok read) = shown_by read.0 (read_fields (drop read.1 octets))
with_offset octets (Err reason) = Err reason

-- what a body is as a timestamp
unfoldable pub timestamp_of_body : List ℕ → Result TimestampParts Reason
timestamp_of_body body = with_offset body (read_offset body)
