-- A timestamp that is written is read back.
use Rattle.std.proofs.Common.{◌≡◌, ℕ, suc, ◌^◌, ◌<◌, ◌≤◌, ℤ, pos, negsuc, neg_ℤ, ◌+ℤ◌, Bool, true, false, List, ◌++◌, refl, sym, append_assoc, ap, ◌∙◌, arith, Ok, inl, inr, Option, Some, None}
use Rattle.std.specs.Prelude.{IfSome, ◌==◌}
use Rattle.std.proofs.Math.Nat.{pow-le-pow_right}
use Rattle.std.proofs.lemmas.Int.{ints}
use Rattle.std.proofs.lemmas.Bool.{le-ltb, eqb-true}
use Rattle.ion_scalar.specs.Names.{AreFields, Begins, HasOffset, InYears, IsBehindDay, IsBehindHour, IsBehindMinute, IsBehindMonth, IsBehindSecond, IsBehindYear, IsCut, IsMinute, IsOffset, IsTimestamp, IsTimestampBody, Local, Minute, Precision, TimestampParts, Utc, VarInt, ahead_octets, day_of, farthest_offset, fields_octets, int_octets, kept_offset, last_hour, last_minute, last_month, last_second, last_year, local_in, local_minute, minute_number, minute_of, minutes_ahead, month_length, most_digits, moved, octets_behind_minute, octets_behind_second, offset_from, time_known, timestamp_octets, timestamp_of_body, utc_minute, utc_of, var_int_octets, var_uint_octets}
use Rattle.ion_atoms.specs.laws.Calendar.{minute_number-injective}
use Rattle.ion_atoms.specs.laws.Neighbours.{month_most}
use Rattle.ion_atoms.specs.laws.Timestamps.{local_minute-is}
use Rattle.ion_scalar.specs.binary.laws.Shifted.{moved_is}
use Rattle.ion_scalar.specs.binary.laws.Shown.{cut_kept, timestamp_read}
use Rattle.ion_scalar.specs.binary.laws.Spellings.{int_parts, var_int_spelled, var_uint_spelled}
use Rattle.ion_scalar.specs.binary.laws.Timestamp.{IsUtc}
use Rattle.ion_scalar.specs.text.laws.TimestampTexts.{near_offset}

begins : (least most : ℕ) (Behind : ℕ → List ℕ → Type 0) (n : ℕ) (rest : List ℕ) → most < 2 ^ 63 → least ≤ n → n ≤ most → Behind n rest
    → Begins least most Behind (var_uint_octets n ++ rest)
begins least most Behind n rest small low high behind = record {
  field = var_uint_octets n;
  rest = rest;
  number = n;
  cut = refl;
  is = var_uint_spelled n (omega arith);
  range = (low, high);
  behind = behind;
}

module _ (m : Minute) (h : IsMinute m) (s : ℕ) (k : s ≤ last_second) (f : ℕ) where
  abbrev utc : Precision → Utc
  utc p = time_known p m s f

  abbrev IsCutTo : Precision → Type 0
  IsCutTo p = IsCut p (local_in (time_known p m s f) m)

  fraction_spelled : (digits : ℕ) → IsCutTo (Precision.Fraction digits)
      → IsBehindSecond m s (octets_behind_second (Precision.Fraction digits) (utc (Precision.Fraction digits))) (utc (Precision.Fraction digits))
  fraction_spelled digits cut =
      let parts = int_parts false f in
      inr (record {
        exponent = var_int_octets true digits;
        coefficient = int_octets false f;
        below = true;
        power = digits;
        cut = refl;
        is = var_int_spelled true digits (omega (arith, cut.1));
        fraction = inl (refl, cut.0, cut.1, inl parts.0, rw parts.1 cut.2, λ i. time_known (Precision.Fraction digits) m s (sym parts.1 i));
      })

  second_spelled : IsCutTo Precision.Second → IsBehindSecond m s (octets_behind_second Precision.Second (utc Precision.Second)) (utc Precision.Second)
  second_spelled cut = inl (refl, λ i. time_known Precision.Second m s (cut i))

  minute_spelled : IsCutTo Precision.Minute → IsBehindMinute m (octets_behind_minute Precision.Minute (utc Precision.Minute)) (utc Precision.Minute)
  minute_spelled cut = inl (refl, λ i. time_known Precision.Minute m (cut.0 i) (cut.1 i))

  -- a second behind a minute, an hour and a minute behind a day, and so on
  seconds : (u : Utc) (rest : List ℕ) → IsBehindSecond m s rest u → IsBehindMinute m (var_uint_octets s ++ rest) u
  seconds u rest is = inr (begins 0 last_second (λ n r. IsBehindSecond m n r u) s rest (omega arith) (omega arith) k is)

  hours : (u : Utc) (rest : List ℕ) → IsBehindMinute m rest u → IsBehindDay m.date (var_uint_octets m.hour ++ (var_uint_octets m.minute ++ rest)) u
  hours u rest is =
      inr (begins 0 last_hour (λ n r. IsBehindHour m.date n r u) m.hour (var_uint_octets m.minute ++ rest) (omega arith) (omega arith) h.hour
      (begins 0 last_minute (λ n r. IsBehindMinute (minute_of m.date m.hour n) r u) m.minute rest (omega arith) (omega arith) h.minute is))

  days : (u : Utc) (rest : List ℕ) → IsBehindDay m.date rest u → IsBehindMonth m.date.year m.date.month (var_uint_octets m.date.day ++ rest) u
  days u rest is =
      inr (begins 1 (month_length m.date.year m.date.month) (λ n r. IsBehindDay (day_of m.date.year m.date.month n) r u) m.date.day rest
      (omega (arith, month_most m.date.year m.date.month)) h.date.day.0 h.date.day.1 is)

  months : (u : Utc) (rest : List ℕ) → IsBehindMonth m.date.year m.date.month rest u → IsBehindYear m.date.year (var_uint_octets m.date.month ++ rest) u
  months u rest is =
      inr (begins 1 last_month (λ n r. IsBehindMonth m.date.year n r u) m.date.month rest (omega arith) h.date.month.0 h.date.month.1 is)

  years : (u : Utc) (rest : List ℕ) → IsBehindYear m.date.year rest u → AreFields (var_uint_octets m.date.year ++ rest) u
  years u rest is = begins 1 last_year (λ n r. IsBehindYear n r u) m.date.year rest (omega arith) h.date.year.0 h.date.year.1 is

  known : Precision → ℕ → ℕ → ℕ → ℕ → ℕ → ℕ → Utc
  known p month day hour minute second fraction = time_known p (minute_of (day_of m.date.year month day) hour minute) second fraction

  pub fields_spelled : (p : Precision) → IsCutTo p → AreFields (fields_octets (utc p)) (utc p)
  unfolding known
  fields_spelled Precision.Year cut =
      years _ _ (inl (refl, λ i. known Precision.Year (cut.0 i) (cut.1 i) (cut.2 i) (cut.3 i) (cut.4 i) (cut.5 i)))
  fields_spelled Precision.Month cut =
      years _ _ (months _ _ (inl (refl, λ i. known Precision.Month m.date.month (cut.0 i) (cut.1 i) (cut.2 i) (cut.3 i) (cut.4 i))))
  fields_spelled Precision.Day cut =
      years _ _ (months _ _ (days _ _ (inl (refl, λ i. known Precision.Day m.date.month m.date.day (cut.0 i) (cut.1 i) (cut.2 i) (cut.3 i)))))
  fields_spelled Precision.Minute cut = years _ _ (months _ _ (days _ _ (hours _ _ (minute_spelled cut))))
  fields_spelled Precision.Second cut = years _ _ (months _ _ (days _ _ (hours _ _ (seconds _ _ (second_spelled cut)))))
  fields_spelled (Precision.Fraction digits) cut =
      years _ _ (months _ _ (days _ _ (hours _ _ (seconds _ _ (fraction_spelled digits cut)))))

-- the offset
record Ahead (offset : Option ℤ) : Type 0 where
  below : Bool
  minutes : ℕ
  is : VarInt (ahead_octets offset) below minutes
  range : minutes ≤ farthest_offset
  same : offset_from below minutes ≡ offset

not_zero : (n : ℕ) (b : Bool) → (suc n == 0) ≡ b → offset_from true (suc n) ≡ Some (negsuc n)
not_zero n false e = rw e refl
not_zero n true e = absurd (omega (arith, eqb-true (suc n) 0 e))

ahead_spelled : (offset : Option ℤ) → IfSome offset IsOffset → Ahead offset
ahead_spelled None h = record { below = true; minutes = 0; is = var_int_spelled true 0 (omega arith); range = omega arith; same = refl }
ahead_spelled (Some (pos n)) h = record {
  below = false;
  minutes = n;
  is = rw (le-ltb n 0 (omega arith)) (var_int_spelled false n (omega (arith, ints, h.1)));
  range = omega (arith, ints, h.1);
  same = refl;
}
ahead_spelled (Some (negsuc n)) h = record {
  below = true;
  minutes = suc n;
  is = var_int_spelled true (suc n) (omega (arith, ints, h.0));
  range = omega (arith, ints, h.0);
  same = not_zero n (suc n == 0) refl;
}

kept_is : (p : Precision) (offset : Option ℤ) → HasOffset p offset → offset ≡ kept_offset p offset
kept_is Precision.Minute offset h = refl
kept_is Precision.Second offset h = refl
kept_is (Precision.Fraction digits) offset h = refl
kept_is _ offset h = h

pub near_back : (offset : Option ℤ) → IfSome offset IsOffset → IsOffset (neg_ℤ (minutes_ahead offset))
near_back None h = (omega (arith, ints), omega (arith, ints))
near_back (Some z) h = (omega (arith, ints, h.1), omega (arith, ints, h.0))

module _ (t : TimestampParts) (h : IsTimestamp t) where
  abbrev back : ℤ
  back = neg_ℤ (minutes_ahead t.offset)

  abbrev local : Minute
  local = local_minute t.local

  -- a timestamp's offset, counted back to UTC, is less than a day
  pub near_utc : IsOffset (neg_ℤ (minutes_ahead t.offset))
  near_utc = near_back t.offset (near_offset t.precision t.offset h.offset)

  pub utc_within : InYears (pos (minute_number (local_minute t.local)) +ℤ neg_ℤ (minutes_ahead t.offset))
  utc_within =
      let same : pos (minute_number local) +ℤ back ≡ utc_minute t = omega (arith, ints) in
      rw same (h.years)

  there : IsMinute (moved local back) × (pos (minute_number (moved local back)) ≡ pos (minute_number local) +ℤ back)
  there = moved_is local back (local_minute-is t h) near_utc utc_within

  stays : kept_offset t.precision t.offset ≡ None → local_in (utc_of t) (moved local back) ≡ t.local
  stays none =
      let unknown : t.offset ≡ None = kept_is t.precision t.offset h.offset ∙ none in
      let no_minutes : minutes_ahead t.offset ≡ pos 0 = ap minutes_ahead unknown in
      ap (local_in (utc_of t)) (minute_number-injective (moved local back) local there.0 (local_minute-is t h) (omega (arith, ints, there.1, no_minutes)))

  utc_is : IsUtc (utc_of t)
  utc_is = record {
    minute = there.0;
    second = h.time.2;
    cut = cut_kept t.precision t.offset t.local (local_in (utc_of t) (moved local back)) h.cut refl refl stays;
  }

  timestamp_spelled : IsTimestampBody (timestamp_octets t) t
  unfolding timestamp_octets
  timestamp_spelled =
      let a = ahead_spelled t.offset (near_offset t.precision t.offset h.offset) in
      let utc_number : utc_minute t ≡ pos (minute_number (moved local back)) = omega (arith, ints, there.1) in
      record {
        ahead = ahead_octets t.offset;
        fields = fields_octets (utc_of t);
        below = a.below;
        minutes = a.minutes;
        utc = utc_of t;
        cut = refl;
        is_ahead = a.is;
        range = a.range;
        are_fields = fields_spelled (moved local back) there.0 t.local.second h.time.2 t.local.fraction t.precision utc_is.cut;
        precision = refl;
        offset = rw a.same (kept_is t.precision t.offset h.offset);
        at = λ i. record { minute = utc_number i; second = t.local.second; fraction = t.local.fraction };
        is = h;
      }

  -- a timestamp that is written is read back
  pub timestamp_again : timestamp_of_body (timestamp_octets t) ≡ Ok t
  timestamp_again = timestamp_read (timestamp_octets t) t timestamp_spelled

-- a fraction has at most 38 digits
cut_small : (p : Precision) (l : Local) → IsCut p l → l.fraction < 2 ^ 127
cut_small Precision.Year l cut = omega (arith, cut.5)
cut_small Precision.Month l cut = omega (arith, cut.4)
cut_small Precision.Day l cut = omega (arith, cut.3)
cut_small Precision.Minute l cut = omega (arith, cut.1)
cut_small Precision.Second l cut = omega (arith, cut)
cut_small (Precision.Fraction digits) l cut =
    let most : 10 ^ digits ≤ 10 ^ most_digits = pow-le-pow_right (omega arith) cut.1 in
    omega (arith, most, cut.2)

-- a timestamp's fraction is below 2^127
pub fraction_small : (t : TimestampParts) → IsTimestamp t → t.local.fraction < 2 ^ 127
fraction_small t h = cut_small t.precision t.local h.cut

-- the octets that are written, the last ones first
pub octets_are : (t : TimestampParts) (utc : Utc) (offset : Option ℤ) (x y z : List ℕ) → utc ≡ utc_of t → offset ≡ t.offset
    → x ≡ ahead_octets offset ++ y → y ≡ fields_octets utc ++ z → x ≡ timestamp_octets t ++ z
unfolding timestamp_octets
octets_are t utc offset x y z same ahead first rest =
    first ∙ (ap (λ (os : List ℕ). ahead_octets offset ++ os) rest ∙ ((λ i. ahead_octets (ahead i) ++ (fields_octets (same i) ++ z))
    ∙ sym (append_assoc (ahead_octets t.offset) (fields_octets (utc_of t)) z)))
