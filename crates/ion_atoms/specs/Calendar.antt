-- The proleptic Gregorian calendar by day numbers: a day's number is how many days there are before it, from the
-- first of January of the year 0 on.
use Rattle.std.specs.Prelude.{ℕ, zero, suc, ◌+◌, ◌-◌, ◌*◌, ◌%◌, ◌≤◌, Bool, not, ◌&&◌, ◌||◌, ◌==◌, if◌then◌else◌, ℤ, pos, ◌≤ℤ◌, ◌<ℤ◌}
use Rattle.ion_atoms.specs.declared.calendar.Date.{Date}
use Rattle.ion_atoms.specs.declared.calendar.Minute.{Minute}
use Rattle.ion_atoms.specs.TimestampBounds.{last_year, last_month, last_hour, last_minute}

-- every fourth year, but of the centuries only every fourth
abbrev pub is_leap : ℕ → Bool
is_leap year = (year % 4 == 0) && (not (year % 100 == 0) || (year % 400 == 0))

-- 366 days where the year is a leap year, else 365
abbrev pub year_length : ℕ → ℕ
year_length year = if is_leap year then 366 else 365

-- how many days a month of a year has
abbrev pub month_length : ℕ → ℕ → ℕ
month_length year month =
    if month == 2 then (if is_leap year then 29 else 28)
    else (if (month == 4) || (month == 6) || (month == 9) || (month == 11) then 30 else 31)

-- the days of the first so many years, from the year 0 on
unfoldable pub days_of_years : ℕ → ℕ
days_of_years zero = 0
days_of_years (suc n) = days_of_years n + year_length n

-- the days of a year's first so many months
unfoldable pub days_of_months : ℕ → ℕ → ℕ
days_of_months year zero = 0
days_of_months year (suc n) = days_of_months year n + month_length year (suc n)

-- the years 1 to 9999 have this day
pub record IsDate (d : Date) : Type 0 where
  pub year : (1 ≤ d.year) × (d.year ≤ last_year)
  pub month : (1 ≤ d.month) × (d.month ≤ last_month)
  pub day : (1 ≤ d.day) × (d.day ≤ month_length d.year d.month)

-- the days of the years before it, of the months before it, and those of its month before it
abbrev pub day_number : Date → ℕ
day_number d = days_of_years d.year + days_of_months d.year (d.month - 1) + (d.day - 1)

-- the numbers of 0001-01-01 and of 9999-12-31
abbrev pub first_day : ℕ
first_day = day_number (record { year = 1; month = 1; day = 1 })

-- the number of 9999-12-31
abbrev pub last_day : ℕ
last_day = day_number (record { year = last_year; month = last_month; day = 31 })

-- a day of those years, and a minute of that day
pub record IsMinute (m : Minute) : Type 0 where
  pub date : IsDate m.date
  pub hour : m.hour ≤ last_hour
  pub minute : m.minute ≤ last_minute

-- how many minutes there are before it
abbrev pub minute_number : Minute → ℕ
minute_number m = day_number m.date * 1440 + (m.hour * 60 + m.minute)

-- the number of a minute of the years 1 to 9999
abbrev pub InYears : ℤ → Type 0
InYears z = (pos (first_day * 1440) ≤ℤ z) × (z <ℤ pos ((last_day + 1) * 1440))
