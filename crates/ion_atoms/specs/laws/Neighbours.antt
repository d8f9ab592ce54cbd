-- The day before has the number before, and the day after the number behind.
use Rattle.std.proofs.Common.{◌≡◌, ℕ, suc, ◌+◌, ◌-◌, ◌<◌, ◌≤◌, inl, inr, Bool, true, false, cond, refl, ap, arith}
use Rattle.std.proofs.lemmas.Bool.{lt-ltb, le-ltb, cases_lt}
use Rattle.ion_atoms.specs.declared.calendar.Date.{Date}
use Rattle.ion_atoms.specs.TimestampBounds.{last_year, last_month}
use Rattle.ion_atoms.specs.Calendar.{IsDate, is_leap, year_length, month_length, days_of_months, day_number, first_day, last_day}
use Rattle.ion_atoms.specs.Neighbours.{day_of, previous_day, next_day}
use Rattle.ion_atoms.specs.laws.Calendar.{year_more, no_month}

month_more : (y n : ℕ) → days_of_months y (suc n) ≡ days_of_months y n + month_length y (suc n)
unfolding days_of_months
month_more y n = refl

-- the months of a year up to November, and December
twelve : (y : ℕ) (leap : Bool) → is_leap y ≡ leap → days_of_months y 11 + 31 ≡ cond leap 366 365
unfolding days_of_months
twelve y true e = rw e refl
twelve y false e = rw e refl

year_months : (y : ℕ) → days_of_months y 11 + 31 ≡ year_length y
year_months y = twelve y (is_leap y) refl

either : (b : Bool) (m n : ℕ) → 28 ≤ m → 28 ≤ n → 28 ≤ cond b m n
either true m n h k = h
either false m n h k = k

-- each month has at least 28 days
pub month_least : (y m : ℕ) → 28 ≤ month_length y m
month_least y m = either _ _ _ (either (is_leap y) 29 28 (omega arith) (omega arith)) (either _ 30 31 (omega arith) (omega arith))

not_above : (b : Bool) (m n : ℕ) → m ≤ 31 → n ≤ 31 → cond b m n ≤ 31
not_above true m n h k = h
not_above false m n h k = k

-- no month has more than 31 days
pub month_most : (y m : ℕ) → month_length y m ≤ 31
month_most y m = not_above _ _ _ (not_above (is_leap y) 29 28 (omega arith) (omega arith)) (not_above _ 30 31 (omega arith) (omega arith))

module _ (d : Date) (h : IsDate d) where
  month_before : (m : ℕ) → 1 ≤ m → days_of_months d.year m ≡ days_of_months d.year (m - 1) + month_length d.year m
  month_before m some =
      let same : suc (m - 1) ≡ m = omega arith in
      rw same at (month_more d.year (m - 1))

  -- the day after has the number behind
  pub next_number : day_number (next_day d) ≡ day_number d + 1
  next_number =
      elim (cases_lt d.day (month_length d.year d.month)) [
        | inl within ↦ rw (lt-ltb d.day (month_length d.year d.month) within) (omega (arith, h.day))
        | inr last ↦ elim (cases_lt d.month last_month) [
          | inl month ↦
              let same : d.month + 1 - 1 ≡ d.month = omega arith in
              rw (le-ltb d.day (month_length d.year d.month) last, lt-ltb d.month last_month month, same) (omega (arith, h.day, month_before d.month h.month.0))
          | inr december ↦
              let twelfth : d.month ≡ last_month = omega (arith, h.month) in
              let next : d.year + 1 ≡ suc d.year = omega arith in
              let long : d.day ≡ 31 = omega (arith, h.day, ap (month_length d.year) twelfth) in
              let months : days_of_months d.year (d.month - 1) ≡ days_of_months d.year 11 = ap (λ m. days_of_months d.year (m - 1)) twelfth in
              rw (le-ltb d.day (month_length d.year d.month) last, le-ltb d.month last_month december, next)
              (omega (arith, year_more d.year, year_months d.year, no_month (suc d.year), months, long))
        ]
      ]

  -- the day after is a day of the years 1 to 9999, if its year isn't past 9999
  pub next_is : (next_day d).year ≤ last_year → IsDate (next_day d)
  next_is bound =
      elim (cases_lt d.day (month_length d.year d.month)) [
        | inl within ↦ rw (lt-ltb d.day (month_length d.year d.month) within) (record { year = h.year; month = h.month; day = (omega arith, omega arith) })
        | inr last ↦ elim (cases_lt d.month last_month) [
          | inl month ↦ rw (le-ltb d.day (month_length d.year d.month) last, lt-ltb d.month last_month month)
              (record { year = h.year; month = (omega arith, omega arith); day = (omega arith, omega (arith, month_least d.year (d.month + 1))) })
          | inr december ↦
              let small = rw (le-ltb d.day (month_length d.year d.month) last, le-ltb d.month last_month december) at bound in
              rw (le-ltb d.day (month_length d.year d.month) last, le-ltb d.month last_month december)
              (record { year = (omega arith, small); month = (omega arith, omega arith); day = (omega arith, omega arith) })
        ]
      ]

  -- the day before has the number before
  pub previous_number : 1 ≤ d.year → day_number (previous_day d) + 1 ≡ day_number d
  previous_number some =
      elim (cases_lt 1 d.day) [
        | inl within ↦ rw (lt-ltb 1 d.day within) (omega arith)
        | inr first ↦ elim (cases_lt 1 d.month) [
          | inl month ↦
              rw (le-ltb 1 d.day first, lt-ltb 1 d.month month) (omega
              (arith, h.day, month_least d.year (d.month - 1), month_before (d.month - 1) (omega arith)))
          | inr january ↦
              let one : d.month ≡ 1 = omega (arith, h.month) in
              let next : suc (d.year - 1) ≡ d.year = omega arith in
              let more = rw next at (year_more (d.year - 1)) in
              let months : days_of_months d.year (d.month - 1) ≡ days_of_months d.year 0 = ap (λ m. days_of_months d.year (m - 1)) one in
              rw (le-ltb 1 d.day first, le-ltb 1 d.month january) (omega (arith, h.day, more, year_months (d.year - 1), no_month d.year, months))
        ]
      ]

  -- the day before is a day of the years 1 to 9999, if its year isn't 0
  pub previous_is : 1 ≤ (previous_day d).year → IsDate (previous_day d)
  previous_is bound =
      elim (cases_lt 1 d.day) [
        | inl within ↦ rw (lt-ltb 1 d.day within) (record { year = h.year; month = h.month; day = (omega arith, omega (arith, h.day)) })
        | inr first ↦ elim (cases_lt 1 d.month) [
          | inl month ↦ rw (le-ltb 1 d.day first, lt-ltb 1 d.month month)
              (record { year = h.year; month = (omega arith, omega (arith, h.month)); day = (omega (arith, month_least d.year (d.month - 1)), omega arith) })
          | inr january ↦
              let small = rw (le-ltb 1 d.day first, le-ltb 1 d.month january) at bound in
              rw (le-ltb 1 d.day first, le-ltb 1 d.month january) (record {
                year = (small, omega (arith, h.year));
                month =
                    (omega arith, omega arith);
                day = (omega arith, omega arith);
              })
        ]
      ]

  -- the day before is one of the years 1 to 9999, but for the first of them, and the day after but for the last
  pub previous_first : (previous_day d).year < 1 → day_number d ≡ first_day
  previous_first none =
      elim (cases_lt 1 d.day) [
        | inl within ↦ absurd (omega (arith, h.year, rw (lt-ltb 1 d.day within) at none))
        | inr first ↦ elim (cases_lt 1 d.month) [
          | inl month ↦ absurd (omega (arith, h.year, rw (le-ltb 1 d.day first, lt-ltb 1 d.month month) at none))
          | inr january ↦
              let before = rw (le-ltb 1 d.day first, le-ltb 1 d.month january) at none in
              let year : d.year ≡ 1 = omega (arith, h.year) in
              let month : d.month ≡ 1 = omega (arith, h.month) in
              let day : d.day ≡ 1 = omega (arith, h.day) in
              λ i. day_number (day_of (year i) (month i) (day i))
        ]
      ]

  -- only the last day has a day after it past the year 9999
  pub next_last : last_year < (next_day d).year → day_number d ≡ last_day
  next_last past =
      elim (cases_lt d.day (month_length d.year d.month)) [
        | inl within ↦ absurd (omega (arith, h.year, rw (lt-ltb d.day (month_length d.year d.month) within) at past))
        | inr last ↦ elim (cases_lt d.month last_month) [
          | inl month ↦ absurd (omega (arith, h.year, rw (le-ltb d.day (month_length d.year d.month) last, lt-ltb d.month last_month month) at past))
          | inr december ↦
              let beyond = rw (le-ltb d.day (month_length d.year d.month) last, le-ltb d.month last_month december) at past in
              let year : d.year ≡ last_year = omega (arith, h.year) in
              let month : d.month ≡ last_month = omega (arith, h.month) in
              let day : d.day ≡ 31 = omega (arith, h.day, ap (month_length d.year) month) in
              λ i. day_number (day_of (year i) (month i) (day i))
        ]
      ]
