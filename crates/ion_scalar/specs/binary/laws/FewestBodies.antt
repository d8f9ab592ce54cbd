-- No body of a decimal or a timestamp is shorter than the one that is written.
use Rattle.std.proofs.Common.{◌≡◌, ℕ, zero, suc, ◌+◌, ◌≤◌, ◌⊎◌, ℤ, pos, neg_ℤ, ◌+ℤ◌, Bool, true, false, cond, List, [], ◌++◌, length, refl, sym, ap, subst, arith, inl, inr, Option, Some, None, length-append}
use Rattle.std.specs.Prelude.{◌&&◌, ◌==◌, int_lt, unsigned_abs}
use Rattle.std.proofs.lemmas.Bool.{le-ltb, cond_both}
use Rattle.std.proofs.lemmas.Int.{ints}
use Rattle.std.proofs.lemmas.List.{get_or_append_left, get_or-append-add}
use Rattle.ion_scalar.specs.Names.{AreBelow, AreFields, Date, DecimalParts, IsBehindDay, IsBehindHour, IsBehindMinute, IsBehindMonth, IsBehindSecond, IsBehindYear, IsDecimalField, IsFractionOf, IsTimestampBody, Minute, Precision, TimestampParts, Utc, VarInt, ahead_octets, decimal_octets, fields_octets, int_magnitude, int_negative, int_octets, is_zero, kept_offset, local_minute, long, minute_number, minute_of, minutes_ahead, moved, octets_behind_day, octets_behind_minute, octets_behind_month, octets_behind_second, octets_behind_year, offset_from, short, signed, timestamp_octets, utc_minute, utc_of, var_int_octets, var_uint_octets, Begins, EndsOr, last_second, last_minute, last_hour, day_of, last_month, last_year, time_known, day_known, month_length}
use Rattle.ion_atoms.specs.laws.Timestamps.{local_minute-is}
use Rattle.ion_scalar.specs.binary.laws.Fewest.{int_fewest, var_int_fewest, var_uint_fewest}
use Rattle.ion_scalar.specs.binary.laws.Shifted.{moved_found}
use Rattle.ion_scalar.specs.binary.laws.Timestamp.{fields_are}
use Rattle.ion_scalar.specs.binary.laws.TimestampSpellings.{near_utc}

-- the two parts of octets are octets
front_below : (whole xs ys : List ℕ) → whole ≡ xs ++ ys → AreBelow 256 whole → AreBelow 256 xs
front_below whole xs ys e all = λ k h.
    let here : AreBelow 256 (xs ++ ys) = subst (AreBelow 256) e all in
    let below = here k (omega (arith, h, length-append xs ys)) in
    rw (get_or_append_left xs ys 0 k h) at below

back_below : (whole xs ys : List ℕ) → whole ≡ xs ++ ys → AreBelow 256 whole → AreBelow 256 ys
back_below whole xs ys e all = λ k h.
    let here : AreBelow 256 (xs ++ ys) = subst (AreBelow 256) e all in
    let below = here (length xs + k) (omega (arith, h, length-append xs ys)) in
    rw (get_or-append-add xs ys k 0) at below

-- a sign of 0 costs nothing
signed_size : (negative : Bool) (n : ℕ) → length (var_int_octets (int_lt (signed negative n) (pos 0)) (unsigned_abs (signed negative n)))
    ≡ length (var_int_octets negative n)
signed_size false n = rw (le-ltb n 0 (omega arith)) refl
signed_size true zero = refl
signed_size true (suc n) = refl

-- a part and a rest, each of which is as long as it has to be
parts_size : (xs ys front back whole : List ℕ) → whole ≡ front ++ back → length xs ≤ length front → length ys ≤ length back → length (xs ++ ys) ≤ length whole
parts_size xs ys front back whole e h k = omega (arith, h, k, ap length e, length-append xs ys, length-append front back)

-- no body of a decimal is shorter than the one that is written
pub decimal_fewest : (w : List ℕ) (d : DecimalParts) → AreBelow 256 w → IsDecimalField w d → length (decimal_octets d) ≤ length w
decimal_fewest w d octets (inl (none, positive, zero_magnitude, zero_exponent)) = rw (positive, zero_magnitude, zero_exponent) (omega arith)
decimal_fewest w d octets (inr p) =
    let power = var_int_fewest p.power p.below p.written (front_below w p.power p.coefficient p.octets octets) p.is_power in
    let coefficient = int_fewest p.coefficient (back_below w p.power p.coefficient p.octets octets) in
    let first : length (var_int_octets (int_lt d.exponent (pos 0)) (unsigned_abs d.exponent)) ≤ length p.power =
    omega (arith, power, ap (λ e. length (var_int_octets (int_lt e (pos 0)) (unsigned_abs e))) p.exponent, signed_size p.below p.written) in
    let second : length (int_octets d.negative d.magnitude) ≤ length p.coefficient =
    omega (
      arith,
      coefficient,
      ap (λ s. length (int_octets s d.magnitude)) p.sign,
      ap (λ (m : ℕ). length (int_octets (int_negative p.coefficient) m)) p.magnitude,
    ) in
    let power_octets = var_int_octets (int_lt d.exponent (pos 0)) (unsigned_abs d.exponent) in
    cond_both (is_zero d.negative d.magnitude d.exponent) [] (power_octets ++ int_octets d.negative d.magnitude) (λ xs. length xs ≤ length w)
    (λ _. omega arith) (λ _. parts_size power_octets (int_octets d.negative d.magnitude) p.power p.coefficient w p.octets first second)

-- what stands behind the fields, part by part, at most
minute_size : (p : Precision) (utc : Utc) → length (octets_behind_minute p utc) ≤ length (var_uint_octets utc.second) + length (octets_behind_second p utc)
minute_size Precision.Second utc = omega (arith, length-append (var_uint_octets utc.second) (octets_behind_second Precision.Second utc))
minute_size (Precision.Fraction n) utc = omega (arith, length-append (var_uint_octets utc.second) (octets_behind_second (Precision.Fraction n) utc))
minute_size _ utc = omega arith

abbrev clock_octets : Precision → Utc → List ℕ
clock_octets p utc = var_uint_octets utc.minute.minute ++ octets_behind_minute p utc

day_size : (p : Precision) (utc : Utc) → length (octets_behind_day p utc) ≤ length (var_uint_octets utc.minute.hour) + length (clock_octets p utc)
day_size Precision.Year utc = omega arith
day_size Precision.Month utc = omega arith
day_size Precision.Day utc = omega arith
day_size p utc = omega (arith, length-append (var_uint_octets utc.minute.hour) (clock_octets p utc))

month_size : (p : Precision) (utc : Utc) → length (octets_behind_month p utc) ≤ length (var_uint_octets utc.minute.date.day) + length (octets_behind_day p utc)
month_size Precision.Year utc = omega arith
month_size Precision.Month utc = omega arith
month_size p utc = omega (arith, length-append (var_uint_octets utc.minute.date.day) (octets_behind_day p utc))

year_size : (p : Precision) (utc : Utc) → length (octets_behind_year p utc) ≤ length (var_uint_octets utc.minute.date.month)
    + length (octets_behind_month p utc)
year_size Precision.Year utc = omega arith
year_size p utc = omega (arith, length-append (var_uint_octets utc.minute.date.month) (octets_behind_month p utc))

coefficient_size : (c : List ℕ) → AreBelow 256 c → (int_negative c ≡ false) ⊎ (int_magnitude c ≡ 0) → length (int_octets false (int_magnitude c)) ≤ length c
coefficient_size c octets (inl positive) = let size = int_fewest c octets in omega (arith, size, ap (λ s. length (int_octets s (int_magnitude c))) positive)
coefficient_size c octets (inr none) = omega (arith, ap (λ (n : ℕ). length (int_octets false n)) none)

-- a part of the fields is the one that the octets say, and what is written of it and behind it is no longer than they are
abbrev Sized : {X : Type 0} → (Utc → X) → X → (Utc → List ℕ) → List ℕ → Utc → Type 0
Sized part x written octets utc = (part utc ≡ x) × (length (written utc) ≤ length octets)

module _ (minute : Minute) (second : ℕ) (octets : List ℕ) (all : AreBelow 256 octets) where
  abbrev SecondSized : Utc → Type 0
  SecondSized utc = (utc.second ≡ second) × Sized (λ u. u.minute) minute (λ u. octets_behind_second u.precision u) octets utc

  second_sized : (utc : Utc) → IsBehindSecond minute second octets utc → SecondSized utc
  second_sized utc (inl (none, e)) = subst SecondSized (sym e) (refl, (refl, omega arith))
  second_sized utc (inr f) = by f.fraction where
    by : IsFractionOf f.below f.power f.coefficient minute second utc → SecondSized utc
    by (inl (below, one, most, sign, small, e)) =
        let power = var_int_fewest f.exponent f.below f.power (front_below octets f.exponent f.coefficient f.cut all) f.is in
        let first : length (var_int_octets true f.power) ≤ length f.exponent = omega (arith, power, ap (λ s. length (var_int_octets s f.power)) below) in
        let last = coefficient_size f.coefficient (back_below octets f.exponent f.coefficient f.cut all) sign in
        let size = parts_size (var_int_octets true f.power) (int_octets false (int_magnitude f.coefficient)) f.exponent f.coefficient octets f.cut first last in
        subst SecondSized (sym e) (refl, (refl, size))
    by (inr (low, zero_coefficient, e)) = subst SecondSized (sym e) (refl, (refl, omega arith))

-- a field in front of what is written behind it
module _ {X : Type 0} (part : Utc → X) (x : X) (field : Utc → ℕ) (here next : Utc → List ℕ) (Is : ℕ → List ℕ → Utc → Type 0)
    (whole : (utc : Utc) → length (here utc) ≤ length (var_uint_octets (field utc)) + length (next utc))
    (behind : (n : ℕ) (rest : List ℕ) (utc : Utc) → AreBelow 256 rest → Is n rest utc → (field utc ≡ n) × Sized part x next rest utc)
    (least most : ℕ) (octets : List ℕ) (all : AreBelow 256 octets) where
  part_sized : (utc : Utc) → Begins least most (λ n rest. Is n rest utc) octets → Sized part x here octets utc
  part_sized utc b =
      let s = behind b.number b.rest utc (back_below octets b.field b.rest b.cut all) b.behind in
      let size = var_uint_fewest b.field b.number (front_below octets b.field b.rest b.cut all) b.is in
      (s.1.0, omega (arith, whole utc, s.1.1, ap length b.cut, length-append b.field b.rest, size, ap (λ (k : ℕ). length (var_uint_octets k)) s.0))

  ends_sized : (known : Utc) → part known ≡ x → length (here known) ≡ 0 → (utc : Utc) → EndsOr known least most Is octets utc → Sized part x here octets utc
  ends_sized known same none utc (inl e) = subst (Sized part x here octets) (sym e.1) (same, omega (arith, none))
  ends_sized known same none utc (inr b) = part_sized utc b

minute_sized : (minute : Minute) (octets : List ℕ) (utc : Utc) → AreBelow 256 octets → IsBehindMinute minute octets utc
    → Sized (λ u. u.minute) minute (λ u. octets_behind_minute u.precision u) octets utc
minute_sized minute octets utc all = ends_sized (λ u. u.minute) minute (λ u. u.second) _ (λ u. octets_behind_second u.precision u) (IsBehindSecond minute)
    (λ u. minute_size u.precision u) (λ n rest u below is. second_sized minute n rest below u is) 0 last_second octets all
    (time_known Precision.Minute minute 0 0) refl refl utc

hour_sized : (date : Date) (hour : ℕ) (octets : List ℕ) (utc : Utc) → AreBelow 256 octets → IsBehindHour date hour octets utc
    → Sized {X = Date × ℕ} (λ u. (u.minute.date, u.minute.hour)) (date, hour) (λ u. clock_octets u.precision u) octets utc
hour_sized date hour octets utc all = part_sized {X = Date × ℕ} (λ u. (u.minute.date, u.minute.hour)) (date, hour) (λ u. u.minute.minute)
    (λ u. clock_octets u.precision u) (λ u. octets_behind_minute u.precision u) (λ n. IsBehindMinute (minute_of date hour n))
    (λ u. omega (arith, length-append (var_uint_octets u.minute.minute) (octets_behind_minute u.precision u)))
    (λ n rest u below is.
    let m = minute_sized (minute_of date hour n) rest u below is in
    (ap (λ (x : Minute). x.minute) m.0, (ap (λ (x : Minute). (x.date, x.hour)) m.0, m.1)))
    0 last_minute octets all utc

day_sized : (date : Date) (octets : List ℕ) (utc : Utc) → AreBelow 256 octets → IsBehindDay date octets utc
    → Sized (λ u. u.minute.date) date (λ u. octets_behind_day u.precision u) octets utc
day_sized date octets utc all = ends_sized (λ u. u.minute.date) date (λ u. u.minute.hour) _ (λ u. clock_octets u.precision u) (IsBehindHour date)
    (λ u. day_size u.precision u)
    (λ n rest u below is.
    let h = hour_sized date n rest u below is in
    (ap (λ (x : Date × ℕ). x.1) h.0, (ap (λ (x : Date × ℕ). x.0) h.0, h.1)))
    0 last_hour octets all (day_known Precision.Day date) refl refl utc

month_sized : (year month : ℕ) (octets : List ℕ) (utc : Utc) → AreBelow 256 octets → IsBehindMonth year month octets utc
    → Sized {X = ℕ × ℕ} (λ u. (u.minute.date.year, u.minute.date.month)) (year, month) (λ u. octets_behind_month u.precision u) octets utc
month_sized year month octets utc all = ends_sized {X = ℕ × ℕ} (λ u. (u.minute.date.year, u.minute.date.month)) (year, month) (λ u. u.minute.date.day) _
    (λ u. octets_behind_day u.precision u) (λ n. IsBehindDay (day_of year month n)) (λ u. month_size u.precision u)
    (λ n rest u below is.
    let d = day_sized (day_of year month n) rest u below is in
    (ap (λ (x : Date). x.day) d.0, (ap (λ (x : Date). (x.year, x.month)) d.0, d.1)))
    1 (month_length year month) octets all (day_known Precision.Month (day_of year month 1)) refl refl utc

year_sized : (year : ℕ) (octets : List ℕ) (utc : Utc) → AreBelow 256 octets → IsBehindYear year octets utc
    → Sized (λ u. u.minute.date.year) year (λ u. octets_behind_year u.precision u) octets utc
year_sized year octets utc all = ends_sized (λ u. u.minute.date.year) year (λ u. u.minute.date.month) _ (λ u. octets_behind_month u.precision u)
    (IsBehindMonth year) (λ u. year_size u.precision u)
    (λ n rest u below is.
    let m = month_sized year n rest u below is in
    (ap (λ (x : ℕ × ℕ). x.1) m.0, (ap (λ (x : ℕ × ℕ). x.0) m.0, m.1)))
    1 last_month octets all (day_known Precision.Year (day_of year 1 1)) refl refl utc

fields_size : (octets : List ℕ) (utc : Utc) → AreBelow 256 octets → AreFields octets utc → length (fields_octets utc) ≤ length octets
fields_size octets utc all b =
    let sized = part_sized {X = ℕ} (λ _. 0) 0 (λ u. u.minute.date.year) fields_octets (λ u. octets_behind_year u.precision u) IsBehindYear
    (λ u. omega (arith, length-append (var_uint_octets u.minute.date.year) (octets_behind_year u.precision u)))
    (λ n rest u below is. let y = year_sized n rest u below is in (y.0, (refl, y.1))) 1 last_year octets all utc b in
    sized.1

-- the offset
some_octet : (w : List ℕ) (negative : Bool) (n : ℕ) → VarInt w negative n → 1 ≤ length w
some_octet _ _ _ (short octet high) = omega arith
some_octet _ _ _ (long octet digits last low s bound) = omega arith

offset_size : (w : List ℕ) (negative : Bool) (n : ℕ) → AreBelow 256 w → VarInt w negative n → length (ahead_octets (offset_from negative n)) ≤ length w
offset_size w negative n octets is = by (negative && (n == 0)) where
  size : length (var_int_octets negative n) ≤ length w
  size = var_int_fewest w negative n octets is

  by : (none : Bool) → length (ahead_octets (cond none None (Some (signed negative n)))) ≤ length w
  by true = some_octet w negative n is
  by false = omega (arith, size, signed_size negative n)

kept_size : (p : Precision) (offset : Option ℤ) (n : ℕ) → 1 ≤ n → length (ahead_octets offset) ≤ n → length (ahead_octets (kept_offset p offset)) ≤ n
kept_size Precision.Minute offset n one h = h
kept_size Precision.Second offset n one h = h
kept_size (Precision.Fraction digits) offset n one h = h
kept_size _ offset n one h = one

-- the fields of a body are those of the timestamp in UTC
utc_is : (body : List ℕ) (t : TimestampParts) (b : IsTimestampBody body t) → utc_of t ≡ b.utc
utc_is body t b =
    let back : ℤ = neg_ℤ (minutes_ahead t.offset) in
    let same : utc_minute t ≡ pos (minute_number b.utc.minute) = ap (λ x. x.minute) b.at in
    let number : pos (minute_number b.utc.minute) ≡ pos (minute_number (local_minute t.local)) +ℤ back = omega (arith, ints, same) in
    let minute : b.utc.minute ≡ moved (local_minute t.local) back =
    moved_found (local_minute t.local) b.utc.minute back (local_minute-is t b.is) (near_utc t b.is) ((fields_are b.fields b.utc b.are_fields).minute) number in
    let at = b.at in
    let precision = b.precision in
    λ i. record { minute = sym minute i; second = (at i).second; fraction = (at i).fraction; precision = precision i }

-- no body of a timestamp is shorter than the one that is written
pub timestamp_fewest : (w : List ℕ) (t : TimestampParts) → AreBelow 256 w → IsTimestampBody w t → length (timestamp_octets t) ≤ length w
unfolding timestamp_octets
timestamp_fewest w t octets b =
    let front = front_below w b.ahead b.fields b.cut octets in
    let offset = kept_size b.utc.precision (offset_from b.below b.minutes) (length b.ahead) (some_octet b.ahead b.below b.minutes b.is_ahead)
    (offset_size b.ahead b.below b.minutes front b.is_ahead) in
    let first : length (ahead_octets t.offset) ≤ length b.ahead = omega (arith, offset, ap (λ o. length (ahead_octets o)) b.offset) in
    let fields = fields_size b.fields b.utc (back_below w b.ahead b.fields b.cut octets) b.are_fields in
    let second : length (fields_octets (utc_of t)) ≤ length b.fields = omega (arith, fields, ap (λ u. length (fields_octets u)) (utc_is w t b)) in
    parts_size (ahead_octets t.offset) (fields_octets (utc_of t)) b.ahead b.fields w b.cut first second
