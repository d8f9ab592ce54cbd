-- The day before and the day after, by the lengths of months.
use Rattle.std.specs.Prelude.{ℕ, ◌+◌, ◌-◌, nat_lt, if◌then◌else◌}
use Rattle.ion_atoms.specs.declared.calendar.Date.{Date}
use Rattle.ion_atoms.specs.TimestampBounds.{last_month}
use Rattle.ion_atoms.specs.Calendar.{month_length}

-- the date of a year, a month and a day
abbrev pub day_of : ℕ → ℕ → ℕ → Date
day_of year month day = record { year = year; month = month; day = day }

-- the day before: in the month, or the last of the month before, or the last of the year before
abbrev pub previous_day : Date → Date
previous_day d =
    if nat_lt 1 d.day then day_of d.year d.month (d.day - 1)
    else if nat_lt 1 d.month then day_of d.year (d.month - 1) (month_length d.year (d.month - 1))
    else day_of (d.year - 1) last_month 31

-- the day after: in the month, or the first of the next month, or the first of the next year
abbrev pub next_day : Date → Date
next_day d =
    if nat_lt d.day (month_length d.year d.month) then day_of d.year d.month (d.day + 1)
    else if nat_lt d.month last_month then day_of d.year (d.month + 1) 1
    else day_of (d.year + 1) 1 1
