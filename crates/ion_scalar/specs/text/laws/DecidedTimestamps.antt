-- Whether octets are the token of a timestamp, and whether there is such a day and time.
use Rattle.std.proofs.Common.{◌≡◌, ℕ, ◌+◌, ◌*◌, ◌^◌, ◌≤◌, ◌⊎◌, inl, inr, List, length, drop, slice_index, ℤ, pos, neg_ℤ, Option, Some, None, refl}
use Rattle.std.proofs.Math.Decide.{map_dec, ℕ_discrete, dec_le, dec_lt}
use Rattle.ion_scalar.specs.Names.{AreFourAt, AreTwoAt, BeginsWithDay, BeginsWithMinute, BeginsWithMonth, BeginsWithSecond, Date, HasOffset, InYears, IsAt, IsCut, IsDate, IsDay, IsDigitAt, IsMonth, IsOffset, IsOffsetToken, IsPlain, IsShort, IsTime, IsTimestamp, IsTimestampToken, IsYear, Local, Precision, TimestampParts, dated, day, farthest_offset, first_day, four, fraction, last_day, last_hour, last_minute, last_month, last_second, last_year, local_date, minute, month, month_length, most_digits, number, second, timed, two, utc_minute, year}
use Rattle.ion_scalar.specs.text.laws.DecidedNumbers.{plain}
use Rattle.ion_scalar.specs.text.laws.Deciding.{Cut, at_most, below, both, either, five, some_cut, three}

-- 1. The forms.

octet_at : (os : List ℕ) (at c : ℕ) → Dec (IsAt os at c)
octet_at os at c = both (dec_lt at (length os)) (ℕ_discrete (slice_index os at) c)

digit_at : (os : List ℕ) (at : ℕ) → Dec (IsDigitAt os at)
digit_at os at = three (dec_lt at (length os)) (dec_le 48 (slice_index os at)) (dec_le (slice_index os at) 57)

two_at : (os : List ℕ) (at : ℕ) → Dec (AreTwoAt os at)
two_at os at = both (digit_at os at) (digit_at os (at + 1))

four_at : (os : List ℕ) (at : ℕ) → Dec (AreFourAt os at)
four_at os at = both (two_at os at) (two_at os (at + 2))

month_front : (os : List ℕ) → Dec (BeginsWithMonth os)
month_front os = three (four_at os 0) (octet_at os 4 45) (two_at os 5)

day_front : (os : List ℕ) → Dec (BeginsWithDay os)
day_front os = three (month_front os) (octet_at os 7 45) (two_at os 8)

minute_front : (os : List ℕ) → Dec (BeginsWithMinute os)
minute_front os = five (day_front os) (octet_at os 10 84) (two_at os 11) (octet_at os 13 58) (two_at os 14)

second_front : (os : List ℕ) → Dec (BeginsWithSecond os)
second_front os = three (minute_front os) (octet_at os 16 58) (two_at os 17)

clock : (os : List ℕ) → Dec (AreTwoAt os 1 × IsAt os 3 58 × AreTwoAt os 4 × (two os 1 ≤ last_hour) × (two os 4 ≤ last_minute))
clock os = five (two_at os 1) (octet_at os 3 58) (two_at os 4) (dec_le (two os 1) last_hour) (dec_le (two os 4) last_minute)

offset : (os : List ℕ) → Dec (IsOffsetToken os)
offset os =
    either (both (ℕ_discrete (length os) 1) (octet_at os 0 90))
    (map_dec (λ p. (p.0, p.1, p.2.0, p.2.1, p.2.2, p.2.3, p.2.4)) (λ p. (p.0, p.1, (p.2, p.3, p.4, p.5, p.6)))
    (three (ℕ_discrete (length os) 6) (either (octet_at os 0 43) (octet_at os 0 45)) (clock os)))

is_year : (os : List ℕ) → Dec (IsYear os)
is_year os = three (ℕ_discrete (length os) 5) (four_at os 0) (octet_at os 4 84)

is_month : (os : List ℕ) → Dec (IsMonth os)
is_month os = three (ℕ_discrete (length os) 8) (month_front os) (octet_at os 7 84)

is_day : (os : List ℕ) → Dec (IsDay os)
is_day os = both (day_front os) (either (ℕ_discrete (length os) 10) (both (ℕ_discrete (length os) 11) (octet_at os 10 84)))

is_minute : (os : List ℕ) → Dec (BeginsWithMinute os × IsOffsetToken (drop 16 os))
is_minute os = both (minute_front os) (offset (drop 16 os))

is_second : (os : List ℕ) → Dec (BeginsWithSecond os × IsOffsetToken (drop 19 os))
is_second os = both (second_front os) (offset (drop 19 os))

abbrev SecondFraction : List ℕ → List ℕ → Type 0
SecondFraction digits rest = IsPlain digits × IsOffsetToken rest

is_fraction : (os : List ℕ) → Dec (BeginsWithSecond os × IsAt os 19 46 × Cut SecondFraction (drop 20 os))
is_fraction os = three (second_front os) (octet_at os 19 46) (some_cut SecondFraction (λ digits rest. both (plain digits) (offset rest)) (drop 20 os))

-- one of the six
abbrev Form : List ℕ → Type 0
Form os = IsYear os ⊎ (IsMonth os ⊎ (IsDay os ⊎ ((BeginsWithMinute os × IsOffsetToken (drop 16 os))
    ⊎ ((BeginsWithSecond os × IsOffsetToken (drop 19 os)) ⊎ (BeginsWithSecond os × IsAt os 19 46 × Cut SecondFraction (drop 20 os))))))

form : (os : List ℕ) → Dec (Form os)
form os = either (is_year os) (either (is_month os) (either (is_day os) (either (is_minute os) (either (is_second os) (is_fraction os)))))

-- the token spells the parts of some timestamp
abbrev pub SomeTimestamp : List ℕ → Type 0
SomeTimestamp os = (t : TimestampParts) × IsTimestampToken os t

form_timestamp : (os : List ℕ) → Form os → SomeTimestamp os
form_timestamp os (inl h) = (dated Precision.Year (four os 0) 1 1, year h)
form_timestamp os (inr (inl h)) = (dated Precision.Month (four os 0) (two os 5) 1, month h)
form_timestamp os (inr (inr (inl h))) = (dated Precision.Day (four os 0) (two os 5) (two os 8), day h)
form_timestamp os (inr (inr (inr (inl h)))) = (timed os Precision.Minute 0 0 (drop 16 os), minute h.0 h.1)
form_timestamp os (inr (inr (inr (inr (inl h))))) = (timed os Precision.Second (two os 17) 0 (drop 19 os), second h.0 h.1)
form_timestamp os (inr (inr (inr (inr (inr h))))) =
    let c = h.2 in (
      timed os (Precision.Fraction (length c.front)) (two os 17) (number 10 c.front) c.rest,
      fraction h.0 h.1 c.front c.rest (record { cut = c.octets; plain = c.is.0; offset = c.is.1 }),
    )

timestamp_form : (os : List ℕ) (t : TimestampParts) → IsTimestampToken os t → Form os
timestamp_form os _ (year h) = inl h
timestamp_form os _ (month h) = inr (inl h)
timestamp_form os _ (day h) = inr (inr (inl h))
timestamp_form os _ (minute h o) = inr (inr (inr (inl (h, o))))
timestamp_form os _ (second h o) = inr (inr (inr (inr (inl (h, o)))))
timestamp_form os _ (fraction h p digits rest e) = inr (inr
    (inr (inr (inr (h, p, record { front = digits; rest = rest; octets = e.cut; is = (e.plain, e.offset) })))))

-- whether octets are the token of a timestamp is decided
pub timestamp : (os : List ℕ) → Dec (SomeTimestamp os)
timestamp os = map_dec (form_timestamp os) (λ h. timestamp_form os h.0 h.1) (form os)

-- 2. The days and times that there are.

date : (d : Date) → Dec (IsDate d)
date d =
    map_dec (λ p. record { year = p.0; month = p.1; day = p.2 }) (λ p. (p.year, p.month, p.day))
    (three (both (dec_le 1 d.year) (dec_le d.year last_year)) (both (dec_le 1 d.month) (dec_le d.month last_month))
    (both (dec_le 1 d.day) (dec_le d.day (month_length d.year d.month))))

time : (l : Local) → Dec (IsTime l)
time l = three (dec_le l.hour last_hour) (dec_le l.minute last_minute) (dec_le l.second last_second)

no_seconds : (l : Local) → Dec ((l.second ≡ 0) × (l.fraction ≡ 0))
no_seconds l = both (ℕ_discrete l.second 0) (ℕ_discrete l.fraction 0)

no_time : (l : Local) → Dec ((l.hour ≡ 0) × (l.minute ≡ 0) × (l.second ≡ 0) × (l.fraction ≡ 0))
no_time l = map_dec (λ p. (p.0, p.1, p.2.0, p.2.1)) (λ p. (p.0, p.1, (p.2, p.3))) (three (ℕ_discrete l.hour 0) (ℕ_discrete l.minute 0) (no_seconds l))

cut_there : (p : Precision) (l : Local) → Dec (IsCut p l)
cut_there Precision.Year l =
    map_dec (λ p. (p.0, p.1, p.2.0, p.2.1, p.2.2, p.2.3)) (λ p. (p.0, p.1, (p.2, p.3, p.4, p.5)))
    (three (ℕ_discrete l.month 1) (ℕ_discrete l.day 1) (no_time l))
cut_there Precision.Month l =
    map_dec (λ p. (p.0, p.1.0, p.1.1, p.1.2, p.1.3)) (λ p. (p.0, (p.1, p.2, p.3, p.4))) (both (ℕ_discrete l.day 1) (no_time l))
cut_there Precision.Day l = no_time l
cut_there Precision.Minute l = no_seconds l
cut_there Precision.Second l = ℕ_discrete l.fraction 0
cut_there (Precision.Fraction digits) l = three (dec_le 1 digits) (dec_le digits most_digits) (dec_lt l.fraction (10 ^ digits))

unknown : (o : Option ℤ) → Dec (o ≡ None)
unknown None = yes refl
unknown (Some z) = no (λ e. cc)

near : (z : ℤ) → Dec (IsOffset z)
near z = both (at_most (neg_ℤ (pos farthest_offset)) z) (at_most z (pos farthest_offset))

offset_there : (p : Precision) (o : Option ℤ) → Dec (HasOffset p o)
offset_there Precision.Minute None = yes tt
offset_there Precision.Second None = yes tt
offset_there (Precision.Fraction digits) None = yes tt
offset_there Precision.Minute (Some z) = near z
offset_there Precision.Second (Some z) = near z
offset_there (Precision.Fraction digits) (Some z) = near z
offset_there _ o = unknown o

in_years : (z : ℤ) → Dec (InYears z)
in_years z = both (at_most (pos (first_day * 1440)) z) (below z (pos ((last_day + 1) * 1440)))

-- whether there is a day and time with such parts is decided
pub there : (t : TimestampParts) → Dec (IsTimestamp t)
there t =
    map_dec (λ p. record { date = p.0; time = p.1; cut = p.2; offset = p.3; years = p.4 }) (λ h. (h.date, h.time, h.cut, h.offset, h.years))
    (five (date (local_date t.local)) (time t.local) (cut_there t.precision t.local) (offset_there t.precision t.offset) (in_years (utc_minute t)))

-- whether a precision has at most 38 fraction digits is decided
pub short : (p : Precision) → Dec (IsShort p)
short (Precision.Fraction digits) = dec_le digits most_digits
short _ = yes tt
