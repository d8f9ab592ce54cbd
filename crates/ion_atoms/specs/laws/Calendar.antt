-- Day numbers are jiff's, counted from another day; so they name the days, in their order.
use Rattle.std.proofs.Common.{◌≡◌, ℕ, zero, suc, ◌+◌, ◌-◌, ◌≤◌, inl, ℤ, pos, ◌+ℤ◌, ◌-ℤ◌, ◌<ℤ◌, neg_ℤ, refl, sym, ap, subst, ◌∙◌, arith}
use Rattle.std.proofs.lemmas.Int.{by_lt_z}
use Rattle.jiff.proofs.SpanFacts.{signed_arith}
use Rattle.jiff.proofs.Family.{epoch_day_range, epoch_day-lt, epoch_day_injective, days_from_civil-max, min-lt-epoch_day}
use Rattle.jiff.specs.Words.{epoch_day, IsYmd}
use Rattle.jiff_core.specs.declared.civil.date.Date.{Date as CivilDate}
use Rattle.jiff_core.specs.Calendar.{days_from_civil, day_count, days_in_year, days_of_years as civil_years, days_of_months as civil_months}
use Rattle.ion_atoms.specs.declared.calendar.Date.{Date}
use Rattle.ion_atoms.specs.declared.calendar.Minute.{Minute}
use Rattle.ion_atoms.specs.TimestampBounds.{last_year, last_month}
use Rattle.ion_atoms.specs.Calendar.{IsDate, IsMinute, InYears, year_length, month_length, days_of_years, days_of_months, day_number, minute_number, first_day, last_day}

civil_year_more : (n : ℕ) → civil_years (suc n) ≡ civil_years n + days_in_year (pos n -ℤ pos 10000)
unfolding civil_years
civil_year_more n = refl

-- the days before a year and those of the year are the days before the next
pub year_more : (n : ℕ) → days_of_years (suc n) ≡ days_of_years n + year_length n
unfolding days_of_years
year_more n = refl

no_year : days_of_years 0 ≡ 0
unfolding days_of_years
no_year = refl

same_years : (n : ℕ) → civil_years (10000 + n) ≡ civil_years 10000 + days_of_years n
same_years zero = rw no_year (omega arith)
same_years (suc n) =
    let next : 10000 + suc n ≡ suc (10000 + n) = omega arith in
    let y : pos (10000 + n) -ℤ pos 10000 ≡ pos n = omega (arith, signed_arith) in
    let long : days_in_year (pos (10000 + n) -ℤ pos 10000) ≡ year_length n = ap days_in_year y in
    rw next (omega (arith, civil_year_more (10000 + n), year_more n, same_years n, long))

same_months : (y n : ℕ) → civil_months (pos y) n ≡ days_of_months y n
unfolding civil_months days_of_months
same_months y zero = refl
same_months y (suc n) = ap (λ x. x + month_length y (suc n)) (same_months y n)

counted : (d : Date) → 1 ≤ d.day → day_count (pos d.year) d.month d.day ≡ civil_years 10000 + day_number d
unfolding day_count
counted d h =
    let turned : civil_years (d.year + 10000) ≡ civil_years (10000 + d.year) = ap civil_years (omega arith) in
    omega (arith, turned, same_years d.year, same_months d.year (d.month - 1))

-- jiff's number of our day 0
abbrev pub start : ℤ
start = pos (civil_years 10000) -ℤ pos (day_count (pos 1970) 1 1)

pub days_from_civil-day_number : (d : Date) → 1 ≤ d.day → days_from_civil (pos d.year) d.month d.day ≡ pos (day_number d) +ℤ start
unfolding days_from_civil
days_from_civil-day_number d h = omega (arith, signed_arith, counted d h)

-- the same day in jiff
unfoldable pub civil_date : (d : Date) → IsDate d → CivilDate
civil_date d h = record {
  year = pos d.year;
  month = d.month;
  day = d.day;
  year_in = (omega (arith, signed_arith, h.year), omega (arith, signed_arith, h.year));
  month_in = h.month;
  day_in = h.day;
}

pub civil_day_number : (d : Date) (h : IsDate d) → epoch_day (civil_date d h) ≡ pos (day_number d) +ℤ start
unfolding civil_date
civil_day_number d h = days_from_civil-day_number d h.day.0

years-le : (n k : ℕ) → days_of_years n ≤ days_of_years (k + n)
years-le n zero = let same : 0 + n ≡ n = omega arith in rw same (omega arith)
years-le n (suc k) =
    let next : suc k + n ≡ suc (k + n) = omega arith in
    rw next (omega (arith, years-le n k, year_more (k + n)))

-- there are no days before a year's first month
pub no_month : (y : ℕ) → days_of_months y 0 ≡ 0
unfolding days_of_months
no_month y = refl

-- the first day of 1970, from which jiff counts
abbrev pub first_of_1970 : Date
first_of_1970 = record { year = 1970; month = 1; day = 1 }

no_days : days_from_civil (pos 1970) 1 1 ≡ pos 0
unfolding days_from_civil
no_days = omega (arith, signed_arith)

from_1970 : start ≡ neg_ℤ (pos (day_number first_of_1970))
from_1970 =
    let none : days_from_civil (pos 1970) 1 1 ≡ pos 0 = no_days in
    omega (arith, signed_arith, none, days_from_civil-day_number first_of_1970 (omega arith))

-- the day before 0001-01-01 as jiff has it, or an earlier one
before_all : (c : CivilDate) → c.year <ℤ pos 1 → epoch_day c <ℤ (pos first_day +ℤ start)
unfolding civil_date
before_all c h =
    let one : Date = record { year = 1; month = 1; day = 1 } in
    let is : IsDate one = record { year = (omega arith, omega arith); month = (omega arith, omega arith); day = (omega arith, omega arith) } in
    subst (λ z. epoch_day c <ℤ z) (civil_day_number one is) (epoch_day-lt c (civil_date one is) (inl h))

module _ (d : Date) (h : IsDate d) where
  -- a day of jiff's that is ours
  pub civil_number : (c : CivilDate) → IsYmd (pos d.year) (pos d.month) (pos d.day) c → epoch_day c ≡ pos (day_number d) +ℤ start
  civil_number c e =
      let year : c.year ≡ pos d.year = cc in
      let month : c.month ≡ d.month = cc in
      let day : c.day ≡ d.day = cc in
      rw (year, month, day) (days_from_civil-day_number d h.day.0)

  -- and its number as jiff counts
  pub number_from_1970 : (c : CivilDate) → IsYmd (pos d.year) (pos d.month) (pos d.day) c → epoch_day c ≡ pos (day_number d) -ℤ pos (day_number first_of_1970)
  number_from_1970 c e = omega (arith, signed_arith, civil_number c e, from_1970)

  -- no day is before the first or behind the last
  pub first-le : first_day ≤ day_number d
  first-le =
      let same : days_of_years (d.year - 1 + 1) ≡ days_of_years d.year = ap days_of_years (omega (arith, h.year)) in
      omega (arith, years-le 1 (d.year - 1), no_month 1)

  -- no day's number is above that of 9999-12-31
  pub le-last : day_number d ≤ last_day
  le-last = omega (
    arith,
    signed_arith,
    civil_day_number d h,
    epoch_day_range (civil_date d h),
    days_from_civil-max,
    days_from_civil-day_number (record { year = last_year; month = last_month; day = 31 }) (omega arith),
  )

  -- a day of jiff's that follows one before the year 1 is the first
  pub is_first : (c₀ c : CivilDate) → IsYmd (pos d.year) (pos d.month) (pos d.day) c₀ → epoch_day c ≡ epoch_day c₀ -ℤ pos 1 → c.year <ℤ pos 1
      → day_number d ≡ first_day
  is_first c₀ c i e low = omega (arith, signed_arith, first-le, civil_number c₀ i, before_all c low)

  -- jiff has a day before each day of the years 1 to 9999
  pub has_before : (c : CivilDate) → IsYmd (pos d.year) (pos d.month) (pos d.day) c → neg_ℤ (pos 4_371_587) <ℤ epoch_day c
  has_before c i = min-lt-epoch_day c (λ e. absurd (omega (arith, signed_arith, e.0, i.0)))

  -- a day of ours whose number isn't below that of jiff's last day is the last
  pub is_last : (c : CivilDate) → IsYmd (pos d.year) (pos d.month) (pos d.day) c → (epoch_day c <ℤ pos 2_932_896 → ⊥) → day_number d ≡ last_day
  is_last c i n =
      by_lt_z (epoch_day c) (pos 2_932_896) (λ lt. absurd (n lt))
      (λ ge. omega (
        arith,
        signed_arith,
        le-last,
        civil_number c i,
        days_from_civil-max,
        days_from_civil-day_number (record { year = last_year; month = last_month; day = 31 }) (omega arith),
      ))

  -- the day that follows one of ours isn't before the year 1
  pub stays : (c₀ c : CivilDate) → IsYmd (pos d.year) (pos d.month) (pos d.day) c₀ → epoch_day c ≡ epoch_day c₀ +ℤ pos 1 → c.year <ℤ pos 1 → ⊥
  stays c₀ c i e low = omega (arith, signed_arith, first-le, civil_number c₀ i, before_all c low)

-- and days whose jiff numbers differ by one
module _ (d e : Date) (h : IsDate d) (k : IsDate e) (c b : CivilDate) (i : IsYmd (pos d.year) (pos d.month) (pos d.day) c)
    (j : IsYmd (pos e.year) (pos e.month) (pos e.day) b) where
  -- a day whose jiff number is one less has the number before
  pub one_less : epoch_day b ≡ epoch_day c -ℤ pos 1 → day_number e + 1 ≡ day_number d
  one_less n = omega (arith, signed_arith, civil_number d h c i, civil_number e k b j)

  -- a day whose jiff number is one more has the number behind
  pub one_more : epoch_day b ≡ epoch_day c +ℤ pos 1 → day_number e ≡ day_number d + 1
  one_more n = omega (arith, signed_arith, civil_number d h c i, civil_number e k b j)

-- a minute's number is one of the years 1 to 9999
pub minute-in_years : (m : Minute) → IsMinute m → InYears (pos (minute_number m))
minute-in_years m h =
    (omega (arith, signed_arith, first-le m.date h.date), omega (arith, signed_arith, le-last m.date h.date, h.hour, h.minute))

-- one number, one day
pub day_number-injective : (d e : Date) → IsDate d → IsDate e → day_number d ≡ day_number e → d ≡ e
unfolding civil_date
day_number-injective d e h k same =
    let parts = epoch_day_injective (civil_date d h) (civil_date e k) (civil_day_number d h ∙ ap (λ n. pos n +ℤ start) same ∙ sym (civil_day_number e k)) in
    let year : d.year ≡ e.year = omega (arith, signed_arith, parts.0) in
    λ i. record { year = year i; month = parts.1 i; day = parts.2 i }

-- one number, one minute
pub minute_number-injective : (m n : Minute) → IsMinute m → IsMinute n → minute_number m ≡ minute_number n → m ≡ n
minute_number-injective m n h k same =
    let days : day_number m.date ≡ day_number n.date = omega (arith, h.hour, h.minute, k.hour, k.minute) in
    let hours : m.hour ≡ n.hour = omega (arith, h.hour, h.minute, k.hour, k.minute) in
    let minutes : m.minute ≡ n.minute = omega (arith, h.hour, h.minute, k.hour, k.minute) in
    let date = day_number-injective m.date n.date h.date k.date days in
    λ i. record { date = date i; hour = hours i; minute = minutes i }
