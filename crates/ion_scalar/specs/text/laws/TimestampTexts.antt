-- What is written of a timestamp spells it.
use Rattle.std.proofs.Common.{◌≡◌, ℕ, zero, suc, ◌+◌, ◌/◌, ◌%◌, ◌^◌, ◌<◌, ◌≤◌, inl, inr, List, [], ◌∷◌, ◌++◌, length, get_or, ℤ, pos, negsuc, refl, sym, ap, subst, ◌∙◌, arith, length-append, append_assoc, Option, Some, None, IfSome, Ok}
use Rattle.std.proofs.Math.Nat.{pow-suc}
use Rattle.std.proofs.lemmas.Nat.{div_below}
use Rattle.std.proofs.lemmas.Int.{ints}
use Rattle.std.proofs.lemmas.Bool.{ne_eqb}
use Rattle.ion_scalar.specs.Names.{AreFourAt, AreTwoAt, BeginsWithDay, BeginsWithMinute, BeginsWithMonth, BeginsWithSecond, HasOffset, IsAt, IsCut, IsOffset, IsOffsetToken, IsTimestamp, IsTimestampToken, Local, Number, Precision, ReadsNumber, TimestampParts, clock_text, cut_text, dated, day, day_text, farthest_offset, four, four_digits, fraction, last_hour, last_minute, minute, minute_read, minute_text, month, month_text, number, number_text, offset_minutes, offset_read, offset_text, padded, second, second_text, timed, timestamp_text, two, two_digits, year}
use Rattle.ion_scalar.specs.text.laws.Texts.{Writes, writes_more, writes_one}
use Rattle.ion_scalar.specs.text.laws.TimestampForms.{there_short}
use Rattle.ion_atoms.specs.laws.Neighbours.{month_most}

-- the last digit of a number of so many digits goes in front of what stands
pub padded_step : (w n : ℕ) (tail more text : List ℕ) → padded (suc w) n ++ tail ≡ text → more ≡ (48 + n % 10) ∷ tail → padded w (n / 10) ++ more ≡ text
padded_step w n tail more text e m = ap (λ (x : List ℕ). padded w (n / 10) ++ x) m ∙ (sym (append_assoc (padded w (n / 10)) ((48 + n % 10) ∷ []) tail) ∙ e)

-- fields of two and of four digits
two_at : (os : List ℕ) (at n : ℕ) → n < 100 → at + 1 < length os → get_or os at 0 ≡ 48 + n / 10 → get_or os (at + 1) 0 ≡ 48 + n % 10
    → AreTwoAt os at × (two os at ≡ n)
two_at os at n h within a b = (((omega arith, omega arith, omega arith), (omega arith, omega arith, omega arith)), omega arith)

four_at : (os : List ℕ) (n : ℕ) → n < 10000 → 3 < length os → get_or os 0 0 ≡ 48 + n / 100 / 10 → get_or os 1 0 ≡ 48 + n / 100 % 10
    → get_or os 2 0 ≡ 48 + n % 100 / 10 → get_or os 3 0 ≡ 48 + n % 100 % 10 → AreFourAt os 0 × (four os 0 ≡ n)
four_at os n h within a b c d =
    let front = two_at os 0 (n / 100) (omega arith) (omega arith) a b in
    let back = two_at os 2 (n % 100) (omega arith) (omega arith) c d in
    ((front.0, back.0), omega (arith, front.1, back.1))

pub small_fields : (t : TimestampParts) → IsTimestamp t → (t.local.year < 10000) × (t.local.month < 100) × (t.local.day < 100) × (t.local.hour < 100)
    × (t.local.minute < 100) × (t.local.second < 100)
small_fields t h =
    let short = month_most t.local.year t.local.month in (
      omega (arith, h.date.year.1),
      omega (arith, h.date.month.1),
      omega (arith, h.date.day.1),
      omega (arith, h.time.0),
      omega (arith, h.time.1),
      omega (arith, h.time.2),
    )

pub near_offset : (p : Precision) (o : Option ℤ) → HasOffset p o → IfSome o IsOffset
near_offset p None h = tt
near_offset Precision.Minute (Some z) h = h
near_offset Precision.Second (Some z) h = h
near_offset (Precision.Fraction d) (Some z) h = h
near_offset _ (Some z) h = cc

clock_is : (c n : ℕ) → n ≤ farthest_offset → let os = c ∷ clock_text n in AreTwoAt os 1 × IsAt os 3 58 × AreTwoAt os 4 × (two os 1 ≤ last_hour)
    × (two os 4 ≤ last_minute) × (offset_minutes os ≡ n)
clock_is c n h =
    let os = c ∷ clock_text n in
    let hours = two_at os 1 (n / 60) (omega arith) (omega arith) refl refl in
    let minutes = two_at os 4 (n % 60) (omega arith) (omega arith) refl refl in
    (hours.0, (omega arith, refl), minutes.0, omega (arith, hours.1), omega (arith, minutes.1), omega (arith, hours.1, minutes.1))

behind_read : (os : List ℕ) (n : ℕ) → get_or os 0 0 ≡ 45 → offset_minutes os ≡ suc n → offset_read os ≡ Some (negsuc n)
behind_read os n sign e = rw (sign, e) (rw (ne_eqb (suc n) 0 (λ is. absurd (omega arith))) refl)

pub offset_is : (o : Option ℤ) → IfSome o IsOffset → IsOffsetToken (offset_text o) × (offset_read (offset_text o) ≡ o)
offset_is None h = let k = clock_is 45 0 (omega arith) in (inr (refl, inr (omega arith, refl), k.0, k.1, k.2, k.3, k.4), refl)
offset_is (Some (pos zero)) h = (inl (refl, (omega arith, refl)), refl)
offset_is (Some (pos (suc n))) h =
    let small : suc n ≤ farthest_offset = grind (arith, ints) in
    let k = clock_is 43 (suc n) small in
    (inr (refl, inl (omega arith, refl), k.0, k.1, k.2, k.3, k.4), ap (λ (x : ℕ). Some (pos x)) k.5)
offset_is (Some (negsuc n)) h =
    let small : suc n ≤ farthest_offset = grind (arith, ints) in
    let k = clock_is 45 (suc n) small in
    (inr (refl, inr (omega arith, refl), k.0, k.1, k.2, k.3, k.4), behind_read (45 ∷ clock_text (suc n)) n refl k.5)

-- so many digits of a number below ten to their number
record Pads (width n : ℕ) (ds : List ℕ) : Type 0 where
  pub writes : Writes n ds
  pub size : length ds ≡ width

pads : (w n : ℕ) → n < 10 ^ suc w → Pads (suc w) n (padded (suc w) n)
pads zero n h =
    let last : n % 10 ≡ n = omega arith in
    record { writes = rw last (writes_one n (omega arith)); size = refl }
pads (suc w) n h =
    let s = pads w (n / 10) (div_below n 10 (10 ^ suc w) (omega arith) (rw (← pow-suc 10 (suc w)) h)) in
    let ds = padded (suc w) (n / 10) in
    record { writes = writes_more n ds s.writes; size = omega (arith, length-append ds ((48 + n % 10) ∷ []), s.size) }

abbrev Small : Local → Type 0
Small l = (l.year < 10000) × (l.month < 100) × (l.day < 100) × (l.hour < 100) × (l.minute < 100) × (l.second < 100)

month_front : (l : Local) (rest : List ℕ) → Small l → BeginsWithMonth (month_text l ++ rest) × (four (month_text l ++ rest) 0 ≡ l.year)
    × (two (month_text l ++ rest) 5 ≡ l.month)
month_front l rest s =
    let os = month_text l ++ rest in
    let y = four_at os l.year s.0 (omega arith) refl refl refl refl in
    let m = two_at os 5 l.month s.1 (omega arith) refl refl in
    ((y.0, (omega arith, refl), m.0), y.1, m.1)

day_front : (l : Local) (rest : List ℕ) → Small l → BeginsWithDay (day_text l ++ rest) × (two (day_text l ++ rest) 8 ≡ l.day)
day_front l rest s =
    let os = day_text l ++ rest in
    let m = month_front l (45 ∷ two_digits l.day ++ rest) s in
    let d = two_at os 8 l.day s.2 (omega arith) refl refl in
    ((m.0, (omega arith, refl), d.0), d.1)

minute_front : (l : Local) (rest : List ℕ) → Small l → BeginsWithMinute (minute_text l ++ rest) × (two (minute_text l ++ rest) 11 ≡ l.hour)
    × (two (minute_text l ++ rest) 14 ≡ l.minute)
minute_front l rest s =
    let os = minute_text l ++ rest in
    let d = day_front l (84 ∷ two_digits l.hour ++ (58 ∷ two_digits l.minute ++ rest)) s in
    let hours = two_at os 11 l.hour s.3 (omega arith) refl refl in
    let minutes = two_at os 14 l.minute s.4 (omega arith) refl refl in
    ((d.0, (omega arith, refl), hours.0, (omega arith, refl), minutes.0), hours.1, minutes.1)

second_front : (l : Local) (rest : List ℕ) → Small l → BeginsWithSecond (second_text l ++ rest) × (two (second_text l ++ rest) 17 ≡ l.second)
second_front l rest s =
    let os = second_text l ++ rest in
    let m = minute_front l (58 ∷ two_digits l.second ++ rest) s in
    let seconds = two_at os 17 l.second s.5 (omega arith) refl refl in
    ((m.0, (omega arith, refl), seconds.0), seconds.1)

-- the local fields as they are read back
read_back : (l : Local) (rest : List ℕ) → Small l → minute_read (minute_text l ++ rest) ≡ record l { second = 0; fraction = 0 }
read_back l rest s =
    let month = month_front l (45 ∷ two_digits l.day ++ (84 ∷ two_digits l.hour ++ (58 ∷ two_digits l.minute ++ rest))) s in
    let day = day_front l (84 ∷ two_digits l.hour ++ (58 ∷ two_digits l.minute ++ rest)) s in
    let minute = minute_front l rest s in
    λ i. record { year = month.1 i; month = month.2 i; day = day.1 i; hour = minute.1 i; minute = minute.2 i; second = 0; fraction = 0 }

-- a day of which no time is known, as it is read back
dated_back : (p : Precision) (y m d : ℕ) (l : Local) (o : Option ℤ) → (y ≡ l.year) × (m ≡ l.month) × (d ≡ l.day)
    → (l.hour ≡ 0) × (l.minute ≡ 0) × (l.second ≡ 0) × (l.fraction ≡ 0) → o ≡ None → dated p y m d ≡ record { local = l; precision = p; offset = o }
dated_back p y m d l o date time none = λ i. record {
  local = record {
    year = date.0 i;
    month = date.1 i;
    day = date.2 i;
    hour = sym (time.0) i;
    minute = sym (time.1) i;
    second = sym (time.2) i;
    fraction = sym (time.3) i;
  };
  precision = p;
  offset = sym none i;
}

cut_again : (l : Local) (p : Precision) (o : Option ℤ) → Small l → IsCut p l → HasOffset p o
    → IsTimestampToken (cut_text p l o) (record { local = l; precision = p; offset = o })
cut_again l Precision.Year o s c h =
    let os = four_digits l.year ++ (84 ∷ []) in
    let y = four_at os l.year s.0 (omega arith) refl refl refl refl in
    subst (IsTimestampToken os) (dated_back Precision.Year (four os 0) 1 1 l o (y.1, sym c.0, sym c.1) (c.2, c.3, c.4, c.5) h)
    (year (refl, y.0, (omega arith, refl)))
cut_again l Precision.Month o s c h =
    let os = month_text l ++ (84 ∷ []) in
    let m = month_front l (84 ∷ []) s in
    subst (IsTimestampToken os) (dated_back Precision.Month (four os 0) (two os 5) 1 l o (m.1, m.2, sym c.0) (c.1, c.2, c.3, c.4) h)
    (month (refl, m.0, (omega arith, refl)))
cut_again l Precision.Day o s c h =
    let os = day_text l in
    let m = month_front l (45 ∷ two_digits l.day) s in
    let d = day_front l [] s in
    subst (IsTimestampToken os) (dated_back Precision.Day (four os 0) (two os 5) (two os 8) l o (m.1, m.2, d.1) (c.0, c.1, c.2, c.3) h)
    (day (d.0, inl refl))
cut_again l Precision.Minute o s c h =
    let os = minute_text l ++ offset_text o in
    let m = minute_front l (offset_text o) s in
    let b = read_back l (offset_text o) s in
    let k = offset_is o (near_offset Precision.Minute o h) in
    let e : Path TimestampParts (timed os Precision.Minute 0 0 (offset_text o)) (record { local = l; precision = Precision.Minute; offset = o }) =
    λ i. record { local = record (b i) { second = sym (c.0) i; fraction = sym (c.1) i }; precision = Precision.Minute; offset = k.1 i } in
    subst (IsTimestampToken os) e (minute m.0 k.0)
cut_again l Precision.Second o s c h =
    let os = second_text l ++ offset_text o in
    let m = second_front l (offset_text o) s in
    let b = read_back l (58 ∷ two_digits l.second ++ offset_text o) s in
    let k = offset_is o (near_offset Precision.Second o h) in
    let e : Path TimestampParts (timed os Precision.Second (two os 17) 0 (offset_text o)) (record { local = l; precision = Precision.Second; offset = o }) =
    λ i. record { local = record (b i) { second = m.1 i; fraction = sym c i }; precision = Precision.Second; offset = k.1 i } in
    subst (IsTimestampToken os) e (second m.0 k.0)
cut_again l (Precision.Fraction zero) o s c h = absurd (omega (arith, c.0))
cut_again l (Precision.Fraction (suc d)) o s c h =
    let digits = padded (suc d) l.fraction in
    let rest = offset_text o in
    let os = second_text l ++ (46 ∷ (digits ++ rest)) in
    let m = second_front l (46 ∷ (digits ++ rest)) s in
    let b = read_back l (58 ∷ two_digits l.second ++ (46 ∷ (digits ++ rest))) s in
    let k = offset_is o (near_offset (Precision.Fraction (suc d)) o h) in
    let q = pads d l.fraction (c.2) in
    let e : Path TimestampParts (timed os (Precision.Fraction (length digits)) (two os 17) (number 10 digits) rest)
    (record { local = l; precision = Precision.Fraction (suc d); offset = o }) =
    λ i. record { local = record (b i) { second = m.1 i; fraction = q.writes.value i }; precision = Precision.Fraction (q.size i); offset = k.1 i } in
    subst (IsTimestampToken os) e (fraction m.0 (omega arith, refl) digits rest (record { cut = refl; plain = (q.writes.digits, q.writes.plain); offset = k.0 }))

pub timestamp_again : (t : TimestampParts) → IsTimestamp t → IsTimestampToken (timestamp_text t) t
timestamp_again t h = cut_again t.local t.precision t.offset (small_fields t h) h.cut h.offset

-- the text of a timestamp is read as it
pub timestamp_reads : (t : TimestampParts) → IsTimestamp t → ReadsNumber (number_text (Number.Timestamp t)) (Ok (Number.Timestamp t))
timestamp_reads t h = (timestamp_again t h, there_short t h, h)
