-- The minute of a day before or after has the number that it is to have.
use Rattle.std.proofs.Common.{◌≡◌, ℕ, ◌+◌, ◌-◌, ◌*◌, ◌<◌, ◌≤◌, inl, inr, Bool, true, false, cond, ℤ, pos, negsuc, ◌+ℤ◌, ◌≤ℤ◌, refl, arith}
use Rattle.std.specs.Prelude.{unsigned_abs}
use Rattle.std.proofs.lemmas.Bool.{lt-ltb, le-ltb, cases_lt}
use Rattle.std.proofs.lemmas.Int.{ints}
use Rattle.ion_scalar.specs.Names.{Date, InYears, IsDate, IsMinute, IsOffset, Minute, day_at, day_number, day_of, first_day, last_day, last_month, last_year, minute_at, minute_number, month_length, moved, next_day, previous_day}
use Rattle.ion_atoms.specs.laws.Calendar.{minute-in_years, minute_number-injective}
use Rattle.ion_atoms.specs.laws.Neighbours.{next_is, next_last, next_number, previous_first, previous_is, previous_number}

low_of : (b : Bool) (d e : Date) → 1 ≤ d.year → 1 ≤ e.year → 1 ≤ (cond b d e).year
low_of true d e h k = h
low_of false d e h k = k

high_of : (b : Bool) (d e : Date) → d.year ≤ last_year → e.year ≤ last_year → (cond b d e).year ≤ last_year
high_of true d e h k = h
high_of false d e h k = k

-- from the second year to the last but one, no day beside another is out of the years
module _ (d : Date) (low : 2 ≤ d.year) (high : d.year < last_year) where
  some : 1 ≤ d.year
  some = omega arith

  most : d.year ≤ last_year
  most = omega arith

  previous_stays : (1 ≤ (previous_day d).year) × ((previous_day d).year ≤ last_year)
  previous_stays =
      let before = day_of d.year (d.month - 1) (month_length d.year (d.month - 1)) in
      let last = day_of (d.year - 1) last_month 31 in (
        low_of _ (day_of d.year d.month (d.day - 1)) _ some (low_of _ before last some (omega arith)),
        high_of _ (day_of d.year d.month (d.day - 1)) _ most (high_of _ before last most (omega arith)),
      )

  next_stays : (1 ≤ (next_day d).year) × ((next_day d).year ≤ last_year)
  next_stays =
      let behind = day_of d.year (d.month + 1) 1 in
      let first = day_of (d.year + 1) 1 1 in (
        low_of _ (day_of d.year d.month (d.day + 1)) _ some (low_of _ behind first some (omega arith)),
        high_of _ (day_of d.year d.month (d.day + 1)) _ most (high_of _ behind first most (omega arith)),
      )

  day_stays : (n : ℕ) → (1 ≤ (day_at d n).year) × ((day_at d n).year ≤ last_year)
  day_stays n = (
    low_of _ (previous_day d) _ previous_stays.0 (low_of _ d (next_day d) some next_stays.0),
    high_of _ (previous_day d) _ previous_stays.1 (high_of _ d (next_day d) most next_stays.1),
  )

-- a minute of the years 2 to 9998 stays in the years 1 to 9999 when moved
pub moved_stays : (m : Minute) (by : ℤ) → 2 ≤ m.date.year → m.date.year < last_year → (1 ≤ (moved m by).date.year) × ((moved m by).date.year ≤ last_year)
unfolding moved
moved_stays m by low high = day_stays m.date low high (unsigned_abs (pos (m.hour * 60 + m.minute + 1440) +ℤ by))

module _ (d : Date) (h : IsDate d) where
  -- a minute counted from the beginning of the day before
  module _ (n : ℕ) (bound : n < 4320) where
    at_number : minute_number (minute_at d n) + 1440 ≡ day_number d * 1440 + n
    at_number =
        elim (cases_lt n 1440) [
          | inl before ↦ rw (lt-ltb n 1440 before) (omega (arith, previous_number d h h.year.0))
          | inr on ↦ elim (cases_lt n 2880) [
            | inl same ↦ rw (le-ltb n 1440 on, lt-ltb n 2880 same) (omega arith)
            | inr after ↦ rw (le-ltb n 1440 on, le-ltb n 2880 after) (omega (arith, next_number d h))
          ]
        ]

    at_date : 1 ≤ (day_at d n).year → (day_at d n).year ≤ last_year → IsDate (day_at d n)
    at_date low high =
        elim (cases_lt n 1440) [
          | inl before ↦ rw (lt-ltb n 1440 before) (previous_is d h (rw (lt-ltb n 1440 before) at low))
          | inr on ↦ elim (cases_lt n 2880) [
            | inl same ↦ rw (le-ltb n 1440 on, lt-ltb n 2880 same) h
            | inr after ↦ rw (le-ltb n 1440 on, le-ltb n 2880 after) (next_is d h (rw (le-ltb n 1440 on, le-ltb n 2880 after) at high))
          ]
        ]

    at_low : first_day * 1440 + 1440 ≤ day_number d * 1440 + n → 1 ≤ (day_at d n).year
    at_low some =
        elim (cases_lt n 1440) [
          | inl before ↦ elim (cases_lt (previous_day d).year 1) [
            | inl none ↦ absurd (omega (arith, previous_first d h none))
            | inr year ↦ rw (lt-ltb n 1440 before) year
          ]
          | inr on ↦ elim (cases_lt n 2880) [
            | inl same ↦ rw (le-ltb n 1440 on, lt-ltb n 2880 same) (h.year.0)
            | inr after ↦ rw (le-ltb n 1440 on, le-ltb n 2880 after) next_low
          ]
        ]
      where
        next_low : 1 ≤ (next_day d).year
        next_low = low_of _ _ _ h.year.0 (low_of _ (day_of d.year (d.month + 1) 1) (day_of (d.year + 1) 1 1) h.year.0 (omega arith))

    at_high : day_number d * 1440 + n < (last_day + 2) * 1440 → (day_at d n).year ≤ last_year
    at_high some =
        elim (cases_lt n 1440) [
          | inl before ↦ rw (lt-ltb n 1440 before) previous_high
          | inr on ↦ elim (cases_lt n 2880) [
            | inl same ↦ rw (le-ltb n 1440 on, lt-ltb n 2880 same) (h.year.1)
            | inr after ↦ elim (cases_lt last_year (next_day d).year) [
              | inl past ↦ absurd (omega (arith, next_last d h past))
              | inr year ↦ rw (le-ltb n 1440 on, le-ltb n 2880 after) year
            ]
          ]
        ]
      where
        previous_high : (previous_day d).year ≤ last_year
        previous_high = high_of _ _ _ h.year.1 (high_of _ (day_of d.year (d.month - 1) (month_length d.year (d.month - 1))) (day_of (d.year - 1) last_month 31)
            h.year.1 (omega (arith, h.year)))

abs_is : (z : ℤ) → pos 0 ≤ℤ z → pos (unsigned_abs z) ≡ z
abs_is (pos k) h = refl
abs_is (negsuc k) h = absurd (omega (arith, ints))

module _ (m : Minute) (by : ℤ) (h : IsMinute m) (o : IsOffset by) where
  -- how many minutes that is from the beginning of the day before on
  count : ℕ
  count = unsigned_abs (pos (m.hour * 60 + m.minute + 1440) +ℤ by)

  count_is : pos count ≡ pos (m.hour * 60 + m.minute + 1440) +ℤ by
  unfolding count
  count_is = abs_is (pos (m.hour * 60 + m.minute + 1440) +ℤ by) (omega (arith, ints, o.0))

  bound : count < 4320
  bound = omega (arith, ints, count_is, o.1, h.hour, h.minute)

  moved_at : moved m by ≡ minute_at m.date count
  unfolding moved count
  moved_at = refl

  -- the minute that lies so many minutes later has the number that lies so many later
  pub moved_number : pos (minute_number (moved m by)) ≡ pos (minute_number m) +ℤ by
  moved_number = rw moved_at (omega (arith, ints, at_number m.date h.date count bound, count_is))

  -- a moved minute is one of a day, if its year is one of 1 to 9999
  pub moved_minute : 1 ≤ (moved m by).date.year → (moved m by).date.year ≤ last_year → IsMinute (moved m by)
  moved_minute low high =
      let date = at_date m.date h.date count bound (rw moved_at at low) (rw moved_at at high) in
      rw moved_at (record { date = date; hour = omega arith; minute = omega arith })

  in_years : InYears (pos (minute_number m) +ℤ by) → (1 ≤ (moved m by).date.year) × ((moved m by).date.year ≤ last_year)
  in_years within =
      let low = at_low m.date h.date count bound (omega (arith, ints, count_is, within.0)) in
      let high = at_high m.date h.date count bound (omega (arith, ints, count_is, within.1)) in
      rw moved_at (low, high)

-- moved to a number in the years 1 to 9999, a minute is one of a day, and has that number
pub moved_is : (m : Minute) (by : ℤ) → IsMinute m → IsOffset by → InYears (pos (minute_number m) +ℤ by) → IsMinute (moved m by)
    × (pos (minute_number (moved m by)) ≡ pos (minute_number m) +ℤ by)
moved_is m by h o within =
    let years = in_years m by h o within in
    (moved_minute m by h o years.0 years.1, moved_number m by h o)

-- where the moved minute's year is one of 1 to 9999, its number is one of those years
pub moved_out : (m : Minute) (by : ℤ) → IsMinute m → IsOffset by → 1 ≤ (moved m by).date.year → (moved m by).date.year ≤ last_year
    → InYears (pos (minute_number m) +ℤ by)
moved_out m by h o low high =
    let is = moved_minute m by h o low high in
    rw (moved_number m by h o) at (minute-in_years (moved m by) is)

-- moved to a number in the years 1 to 9999, a minute has such a year
pub moved_years : (m : Minute) (by : ℤ) → IsMinute m → IsOffset by → InYears (pos (minute_number m) +ℤ by) → (1 ≤ (moved m by).date.year)
    × ((moved m by).date.year ≤ last_year)
moved_years m by h o within = in_years m by h o within

-- the minute of that number is the one
pub moved_found : (m n : Minute) (by : ℤ) → IsMinute m → IsOffset by → IsMinute n → pos (minute_number n) ≡ pos (minute_number m) +ℤ by → n ≡ moved m by
moved_found m n by h o is number =
    let within = rw number at (minute-in_years n is) in
    let there = moved_is m by h o within in
    minute_number-injective n (moved m by) is there.0 (omega (arith, ints, there.1, number))
