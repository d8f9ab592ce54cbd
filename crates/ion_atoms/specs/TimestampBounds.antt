-- The bounds of a timestamp's parts. That offsets and digits have one is this project's choice, and that a year is one of these
-- also in UTC. The others are those of Ion 1.0 ("Timestamp"), of its calendar and of its clock. `src/bounds.rt` has them for the code.
use Rattle.std.specs.Prelude.{ℕ}

-- four digits spell it; the first is the year 1
abbrev pub last_year : ℕ
last_year = 9999

-- December
abbrev pub last_month : ℕ
last_month = 12

-- of a day, counted from 0
abbrev pub last_hour : ℕ
last_hour = 23

-- of an hour, counted from 0
abbrev pub last_minute : ℕ
last_minute = 59

-- of a minute, counted from 0; there is no leap second
abbrev pub last_second : ℕ
last_second = 59

-- in minutes, either way: less than a day
abbrev pub farthest_offset : ℕ
farthest_offset = 1439

-- of the fraction of a second; so many still stand for a number below 2^127
abbrev pub most_digits : ℕ
most_digits = 38
