-- Timestamps: their parts, which of them are kept, when two are the same, and their order.
use Rattle.std.specs.Prelude.{◌≡◌, ℕ, ℤ, pos, neg_ℤ, ◌+◌, ◌^◌, ◌<◌, ◌≤◌, ◌-ℤ◌, ◌≤ℤ◌, Bool, Option, Some, None, ◌&&◌, nat_eq}
use Rattle.std.specs.Ordering.{int_eq, then_cmp, on, nat_cmp, int_cmp}
use Rattle.std.specs.Option.{option_eq, option_cmp}
use Rattle.std.specs.declared.cmp.Ordering.{Ordering}
use Rattle.ion_atoms.specs.Calendar.{InYears, IsDate, minute_number}
use Rattle.ion_atoms.specs.TimestampBounds.{farthest_offset, last_hour, last_minute, last_second, most_digits}
use Rattle.ion_atoms.specs.declared.calendar.Date.{Date}
use Rattle.ion_atoms.specs.declared.calendar.Minute.{Minute}
use Rattle.ion_atoms.specs.declared.timestamp.Local.{Local}
use Rattle.ion_atoms.specs.declared.timestamp.Precision.{Precision}

-- local fields, how many of them are known, and the offset in minutes, None where it is unknown
pub record TimestampParts : Type 0 where
  pub local : Local
  pub precision : Precision
  pub offset : Option ℤ

-- the year, the month and the day
abbrev pub local_date : Local → Date
local_date l = record { year = l.year; month = l.month; day = l.day }

-- the day, the hour and the minute
abbrev pub local_minute : Local → Minute
local_minute l = record { date = local_date l; hour = l.hour; minute = l.minute }

-- a time of day; there is no leap second
abbrev pub IsTime : Local → Type 0
IsTime l = (l.hour ≤ last_hour) × (l.minute ≤ last_minute) × (l.second ≤ last_second)

-- the fields past the precision are 1, of month and day, or 0; a fraction has 1 to 38 digits
abbrev pub IsCut : Precision → Local → Type 0
IsCut Precision.Year l = (l.month ≡ 1) × (l.day ≡ 1) × (l.hour ≡ 0) × (l.minute ≡ 0) × (l.second ≡ 0) × (l.fraction ≡ 0)
IsCut Precision.Month l = (l.day ≡ 1) × (l.hour ≡ 0) × (l.minute ≡ 0) × (l.second ≡ 0) × (l.fraction ≡ 0)
IsCut Precision.Day l = (l.hour ≡ 0) × (l.minute ≡ 0) × (l.second ≡ 0) × (l.fraction ≡ 0)
IsCut Precision.Minute l = (l.second ≡ 0) × (l.fraction ≡ 0)
IsCut Precision.Second l = l.fraction ≡ 0
IsCut (Precision.Fraction digits) l = (1 ≤ digits) × (digits ≤ most_digits) × (l.fraction < 10 ^ digits)

-- less than a day either way
abbrev pub IsOffset : ℤ → Type 0
IsOffset minutes = (neg_ℤ (pos farthest_offset) ≤ℤ minutes) × (minutes ≤ℤ pos farthest_offset)

-- only from minute precision on an offset can be known
abbrev pub HasOffset : Precision → Option ℤ → Type 0
HasOffset Precision.Year offset = offset ≡ None
HasOffset Precision.Month offset = offset ≡ None
HasOffset Precision.Day offset = offset ≡ None
HasOffset _ None = Unit {0}
HasOffset _ (Some minutes) = IsOffset minutes

-- how many minutes local clocks are ahead of UTC; where that is unknown, the local fields are those of UTC
abbrev pub minutes_ahead : Option ℤ → ℤ
minutes_ahead None = pos 0
minutes_ahead (Some minutes) = minutes

-- the number of the minute in UTC
abbrev pub utc_minute : TimestampParts → ℤ
utc_minute t = pos (minute_number (local_minute t.local)) -ℤ minutes_ahead t.offset

-- a timestamp: a day and a time of day, cut at the precision, in the years 1 to 9999 both locally and in UTC
pub record IsTimestamp (t : TimestampParts) : Type 0 where
  pub date : IsDate (local_date t.local)
  pub time : IsTime t.local
  pub cut : IsCut t.precision t.local
  pub offset : HasOffset t.precision t.offset
  pub years : InYears (utc_minute t)

-- when a timestamp is: the minute in UTC, and the second and the fraction in it
pub record Instant : Type 0 where
  pub minute : ℤ
  pub second : ℕ
  pub fraction : ℕ

-- when it is: its minute in UTC, its second and its fraction
abbrev pub instant : TimestampParts → Instant
instant t = record { minute = utc_minute t; second = t.local.second; fraction = t.local.fraction }

-- the place of a precision: year first, and fewer digits first
abbrev pub precision_rank : Precision → ℕ
precision_rank Precision.Year = 0
precision_rank Precision.Month = 1
precision_rank Precision.Day = 2
precision_rank Precision.Minute = 3
precision_rank Precision.Second = 4
precision_rank (Precision.Fraction digits) = 5 + digits

-- whether all local fields agree
abbrev pub local_same : Local → Local → Bool
local_same l m =
    nat_eq l.year m.year && nat_eq l.month m.month && nat_eq l.day m.day
    && nat_eq l.hour m.hour && nat_eq l.minute m.minute && nat_eq l.second m.second && nat_eq l.fraction m.fraction

-- precision, offset and local fields agree, and with them the instant
abbrev pub timestamp_same : TimestampParts → TimestampParts → Bool
timestamp_same s t =
    nat_eq (precision_rank s.precision) (precision_rank t.precision) && option_eq int_eq s.offset t.offset && local_same s.local t.local

-- field by field, the year first
abbrev pub date_cmp : Local → Local → Ordering
date_cmp = then_cmp (then_cmp (on (λ l. l.year) nat_cmp) (on (λ l. l.month) nat_cmp)) (on (λ l. l.day) nat_cmp)

-- field by field, the hour first
abbrev pub time_cmp : Local → Local → Ordering
time_cmp =
    then_cmp (then_cmp (then_cmp (on (λ l. l.hour) nat_cmp) (on (λ l. l.minute) nat_cmp)) (on (λ l. l.second) nat_cmp)) (on (λ l. l.fraction) nat_cmp)

-- by precision, then the unknown offset first and others by their number, then by the local fields
abbrev pub timestamp_cmp : TimestampParts → TimestampParts → Ordering
timestamp_cmp =
    then_cmp (then_cmp (then_cmp (on (λ t. precision_rank t.precision) nat_cmp) (on (λ t. t.offset) (option_cmp int_cmp))) (on (λ t. t.local) date_cmp))
    (on (λ t. t.local) time_cmp)
