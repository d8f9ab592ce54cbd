-- A minute of the day before, of the same day or of the day after, by how many minutes it lies later or earlier.
use Rattle.std.specs.Prelude.{ℕ, ◌+◌, ◌*◌, ◌/◌, ◌%◌, ℤ, pos, ◌+ℤ◌, nat_lt, unsigned_abs, if◌then◌else◌}
use Rattle.ion_scalar.specs.Names.Below.{Date, Minute, next_day, previous_day}

-- in which of the three days a minute comes that is counted from the beginning of the day before
abbrev pub day_at : Date → ℕ → Date
day_at d count = if nat_lt count 1440 then previous_day d else if nat_lt count 2880 then d else next_day d

-- the minute that stands so many minutes behind the beginning of the day before
abbrev pub minute_at : Date → ℕ → Minute
minute_at d count = record { date = day_at d count; hour = count % 1440 / 60; minute = count % 60 }

-- the minute that lies so many minutes later, less than a day
unfoldable pub moved : Minute → ℤ → Minute
moved m by = minute_at m.date (unsigned_abs (pos (m.hour * 60 + m.minute + 1440) +ℤ by))
