-- A timestamp's fields are shown in local form as the calendar has it, and its body is read as what it is.
use Rattle.std.proofs.Common.{◌≡◌, ◌⊎◌, ℕ, ℤ, pos, negsuc, ◌+ℤ◌, ◌-ℤ◌, Bool, true, false, cond, ◌++◌, ◌<◌, ◌≤◌, List, take, drop, refl, sym, ap, subst, ◌∙◌, arith, ◌^◌, FitsSigned, w16, Ok, Err, Result, inl, inr, Option, Some, None}
use Rattle.std.specs.Prelude.{IfSome, unsigned_abs, ◌==◌}
use Rattle.std.proofs.lemmas.Bool.{lt-leb, le-leb, cases_lt}
use Rattle.std.proofs.lemmas.Int.{ints, fits_signed_from_abs}
use Rattle.std.proofs.lemmas.List.{take-append-drop}
use Rattle.std.proofs.Math.Seq.{drop-append_seam}
use Rattle.ion_scalar.specs.Names.{AreFields, AreLargeFields, HasOffset, InYears, Incomplete, IsCut, IsLargeBody, IsMinute, IsOffset, IsTimestamp, IsTimestampBody, Local, Malformed, Minute, Precision, ReadsVarInt, Reason, Signed, TimestampParts, TooLarge, Utc, VarInt, farthest_offset, instant, kept_offset, last_year, local_in, local_minute, minute_number, minutes_ahead, moved, near, offset_from, read_fields, read_offset, shown, signed, timestamp_of_body, utc_minute, var_int, with_offset}
use Rattle.ion_atoms.specs.laws.Calendar.{minute-in_years, minute_number-injective}
use Rattle.ion_atoms.specs.laws.Timestamps.{local_minute-is}
use Rattle.ion_scalar.specs.binary.Timestamp.{shown_by}
use Rattle.ion_scalar.specs.binary.laws.Shifted.{moved_is, moved_minute, moved_number, moved_out, moved_years}
use Rattle.ion_scalar.specs.binary.laws.Timestamp.{Answers, IsUtc, fields_are, fields_judged, reads, told, too_large}
use Rattle.ion_scalar.specs.binary.laws.VarInt.{var_int_answers, var_int_reaches, var_int_read}

zero_near : IsOffset (pos 0)
zero_near = (omega (arith, ints), omega (arith, ints))

-- an offset has 16 bits
abs_small : (z : ℤ) → IsOffset z → unsigned_abs z < 2 ^ 15
abs_small (pos k) h = omega (arith, ints, h.1)
abs_small (negsuc k) h = omega (arith, ints, h.0)

-- an offset of less than a day is a signed number of 16 bits
pub near_fits : (z : ℤ) → IsOffset z → FitsSigned w16 z
near_fits z h = fits_signed_from_abs w16 z (abs_small z h)

-- the offset that is kept is less than a day
near_kept : (p : Precision) (offset : Option ℤ) → IfSome offset IsOffset → IsOffset (minutes_ahead (kept_offset p offset))
near_kept Precision.Minute (Some z) h = h
near_kept Precision.Second (Some z) h = h
near_kept (Precision.Fraction digits) (Some z) h = h
near_kept _ _ h = zero_near

has_offset : (p : Precision) (offset : Option ℤ) → IfSome offset IsOffset → HasOffset p (kept_offset p offset)
has_offset Precision.Minute None h = tt
has_offset Precision.Minute (Some z) h = h
has_offset Precision.Second None h = tt
has_offset Precision.Second (Some z) h = h
has_offset (Precision.Fraction digits) None h = tt
has_offset (Precision.Fraction digits) (Some z) h = h
has_offset _ offset h = refl

-- moving the minute leaves the fields cut
pub cut_kept : (p : Precision) (offset : Option ℤ) (l k : Local) → IsCut p l → k.second ≡ l.second → k.fraction ≡ l.fraction
    → (kept_offset p offset ≡ None → k ≡ l) → IsCut p k
cut_kept Precision.Year offset l k cut second fraction same = subst (IsCut Precision.Year) (sym (same refl)) cut
cut_kept Precision.Month offset l k cut second fraction same = subst (IsCut Precision.Month) (sym (same refl)) cut
cut_kept Precision.Day offset l k cut second fraction same = subst (IsCut Precision.Day) (sym (same refl)) cut
cut_kept Precision.Minute offset l k cut second fraction same = (second ∙ cut.0, fraction ∙ cut.1)
cut_kept Precision.Second offset l k cut second fraction same = fraction ∙ cut
cut_kept (Precision.Fraction digits) offset l k cut second fraction same = (cut.0, cut.1, rw fraction cut.2)

module _ (utc : Utc) (h : IsUtc utc) (offset : Option ℤ) (o : IfSome offset IsOffset) where
  abbrev by : ℤ
  by = minutes_ahead (kept_offset utc.precision offset)

  abbrev parts : Minute → TimestampParts
  parts m = record { local = local_in utc m; precision = utc.precision; offset = kept_offset utc.precision offset }

  -- in the years 1 to 9999, and outside of them
  shown_within : 1 ≤ (moved utc.minute by).date.year → (moved utc.minute by).date.year ≤ last_year → shown offset utc ≡ Ok (parts (moved utc.minute by))
  unfolding shown
  shown_within low high =
      rw (le-leb 1 (moved utc.minute by).date.year low, le-leb (moved utc.minute by).date.year last_year high) refl

  abbrev IsShownBody : Type 0
  IsShownBody =
      ((1 ≤ (moved utc.minute by).date.year) × ((moved utc.minute by).date.year ≤ last_year))
      ⊎ (shown offset utc ≡ Err Malformed)

  shown_cases : IsShownBody
  unfolding shown
  shown_cases =
      elim (cases_lt (moved utc.minute by).date.year 1) [
        | inl none ↦ inr (rw (lt-leb 1 (moved utc.minute by).date.year none) refl)
        | inr low ↦ elim (cases_lt last_year (moved utc.minute by).date.year) [
          | inl beyond ↦ inr (rw (le-leb 1 (moved utc.minute by).date.year low, lt-leb (moved utc.minute by).date.year last_year beyond) refl)
          | inr high ↦ inl (low, high)
        ]
      ]

  near_by : IsOffset by
  near_by = near_kept utc.precision offset o

  -- fields whose local minute isn't in the years 1 to 9999 are malformed
  pub shown_none : (InYears (pos (minute_number utc.minute) +ℤ minutes_ahead (kept_offset utc.precision offset)) → ⊥) → shown offset utc ≡ Err Malformed
  shown_none out =
      elim shown_cases [
        | inl years ↦ absurd (out (moved_out utc.minute by h.minute near_by years.0 years.1))
        | inr refused ↦ refused
      ]

  abbrev Lies : Minute → Type 0
  Lies m = pos (minute_number m) ≡ pos (minute_number utc.minute) +ℤ minutes_ahead (kept_offset utc.precision offset)

  -- fields are shown in the local minute that the offset leads to
  pub shown_some : (m : Minute) → IsMinute m → Lies m → shown offset utc ≡ Ok (parts m)
  shown_some m is number =
      let within = rw number at (minute-in_years m is) in
      let there = moved_is utc.minute by h.minute near_by within in
      let years = moved_years utc.minute by h.minute near_by within in
      let same = minute_number-injective (moved utc.minute by) m there.0 is (omega (arith, ints, there.1, number)) in
      subst (λ x. shown offset utc ≡ Ok (parts x)) same (shown_within years.0 years.1)

  unmoved : (m : Minute) → IsMinute m → Lies m → kept_offset utc.precision offset ≡ None → local_in utc m ≡ local_in utc utc.minute
  unmoved m is number none =
      let no_minutes : by ≡ pos 0 = ap minutes_ahead none in
      ap (local_in utc) (minute_number-injective m utc.minute is h.minute (omega (arith, ints, number, no_minutes)))

  -- such parts are a timestamp
  pub shown_is : (m : Minute) → IsMinute m → Lies m → IsTimestamp (parts m)
  shown_is m is number =
      let back : pos (minute_number m) -ℤ by ≡ pos (minute_number utc.minute) = omega (arith, ints, number) in
      record {
        date = is.date;
        time = (is.hour, is.minute, h.second);
        cut = cut_kept utc.precision offset (local_in utc utc.minute) (local_in utc m) h.cut refl refl (unmoved m is number);
        offset = has_offset utc.precision offset o;
        years = rw back (minute-in_years utc.minute h.minute);
      }

negative_near : (n : ℕ) (none : Bool) → n ≤ farthest_offset → IfSome (cond none None (Some (signed true n))) IsOffset
negative_near n true h = tt
negative_near n false h = (omega (arith, ints, h), omega (arith, ints))

pub near_from : (below : Bool) (n : ℕ) → n ≤ farthest_offset → IfSome (offset_from below n) IsOffset
near_from false n h = (omega (arith, ints), omega (arith, ints, h))
near_from true n h = negative_near n (n == 0) h

module _ (body : List ℕ) where
  abbrev Body : Result TimestampParts Reason → Type 0
  Body r = Answers (IsTimestampBody body) (IsLargeBody body) r

  module _ (read : Signed × ℕ) (is : VarInt (take read.1 body) read.0.negative read.0.magnitude) (range : read.0.magnitude ≤ farthest_offset) where
    abbrev read_ahead : Option ℤ
    read_ahead = offset_from read.0.negative read.0.magnitude

    utc_shown : (utc : Utc) → AreFields (drop read.1 body) utc → Body (shown read_ahead utc)
    utc_shown utc are =
        let o : IfSome read_ahead IsOffset = near_from read.0.negative read.0.magnitude range in
        let u = fields_are (drop read.1 body) utc are in
        let offset = minutes_ahead (kept_offset utc.precision read_ahead) in
        let m = moved utc.minute offset in
        elim (shown_cases utc u read_ahead o) [
          | inr refused ↦ inr refused
          | inl years ↦
              let number = moved_number utc.minute offset u.minute (near_by utc u read_ahead o) in
              let there = moved_minute utc.minute offset u.minute (near_by utc u read_ahead o) years.0 years.1 in
              let back : pos (minute_number m) -ℤ offset ≡ pos (minute_number utc.minute) = omega (arith, ints, number) in
              subst Body (sym (shown_within utc u read_ahead o years.0 years.1)) (inl (reads _ (record {
                ahead = take read.1 body;
                fields = drop read.1 body;
                below = read.0.negative;
                minutes = read.0.magnitude;
                utc = utc;
                cut = sym (take-append-drop read.1 body);
                is_ahead = is;
                range = range;
                are_fields = are;
                precision = refl;
                offset = refl;
                at = λ i. record { minute = back i; second = utc.second; fraction = utc.fraction };
                is = shown_is utc u read_ahead o m there number;
              })))
        ]

    fields_on : (r : Result Utc Reason) → Answers (AreFields (drop read.1 body)) (AreLargeFields (drop read.1 body)) r → Body (shown_by read_ahead r)
    fields_on _ (inl (reads utc are)) = utc_shown utc are
    fields_on _ (inl (too_large l)) = inl (too_large (inr (record {
      ahead = take read.1 body;
      fields = drop read.1 body;
      below = read.0.negative;
      minutes = read.0.magnitude;
      cut = sym (take-append-drop read.1 body);
      is = is;
      range = range;
      large = l;
    })))
    fields_on r (inr e) = inr (ap (shown_by read_ahead) e)

  offset_on : (r : Result (Signed × ℕ) Reason) → ReadsVarInt body r → Body (with_offset body (near r))
  offset_on (Ok read) a =
      elim (cases_lt farthest_offset read.0.magnitude) [
        | inl far ↦ rw (lt-leb read.0.magnitude farthest_offset far) (inr refl)
        | inr range ↦ rw (le-leb read.0.magnitude farthest_offset range)
            (fields_on read a.is range (read_fields (drop read.1 body)) (fields_judged.answers (drop read.1 body)))
      ]
  offset_on (Err TooLarge) a = inl (too_large (inl a))
  offset_on (Err Incomplete) a = inr refl
  offset_on (Err _) a = absurd a

  -- each answer of reading a timestamp's body says what the body is
  pub body_answers : Answers (IsTimestampBody body) (IsLargeBody body) (timestamp_of_body body)
  unfolding timestamp_of_body read_offset
  body_answers = offset_on (var_int body) (var_int_answers body)

-- a body that is read as a timestamp is its body
pub timestamp_told : (body : List ℕ) (t : TimestampParts) → timestamp_of_body body ≡ Ok t → IsTimestampBody body t
timestamp_told body t = told (IsTimestampBody body) (IsLargeBody body) (timestamp_of_body body) t (body_answers body)

-- fields that are shown as a timestamp of that instant
shown_so : (t : TimestampParts) (utc : Utc) (offset : Option ℤ) → IsUtc utc → IfSome offset IsOffset → IsTimestamp t → t.precision ≡ utc.precision
    → t.offset ≡ kept_offset utc.precision offset
    → instant t ≡ record { minute = pos (minute_number utc.minute); second = utc.second; fraction = utc.fraction } → shown offset utc ≡ Ok t
shown_so t utc offset u o is precision same at =
    let m = local_minute t.local in
    let ahead : minutes_ahead t.offset ≡ minutes_ahead (kept_offset utc.precision offset) = ap minutes_ahead same in
    let utc_is : utc_minute t ≡ pos (minute_number utc.minute) = ap (λ x. x.minute) at in
    let number : pos (minute_number m) ≡ pos (minute_number utc.minute) +ℤ minutes_ahead (kept_offset utc.precision offset) =
    omega (arith, ints, ahead, utc_is) in
    let l = t.local in
    let whole : parts utc u offset o m ≡ t = λ i. record {
      local = record {
        year = l.year;
        month = l.month;
        day = l.day;
        hour = l.hour;
        minute = l.minute;
        second =
            (sym at i).second;
        fraction = (sym at i).fraction;
      };
      precision = sym precision i;
      offset = sym same i;
    } in
    shown_some utc u offset o m (local_minute-is t is) number ∙ ap Ok whole

body_due : (body ahead fields : List ℕ) (below : Bool) (minutes : ℕ) (answer : Result TimestampParts Reason) → body ≡ ahead ++ fields
    → VarInt ahead below minutes → minutes ≤ farthest_offset → shown_by (offset_from below minutes) (read_fields fields) ≡ answer
    → timestamp_of_body body ≡ answer
unfolding timestamp_of_body read_offset
body_due body ahead fields below minutes answer cut is range h =
    let P : List ℕ → Type 0 = λ os. with_offset os (near (var_int os)) ≡ answer in
    let here : P (ahead ++ fields) =
    rw (var_int_read ahead fields below minutes is, le-leb minutes farthest_offset range, drop-append_seam ahead fields) h in
    subst P (sym cut) here

-- a body of a timestamp is read as it
pub timestamp_read : (body : List ℕ) (t : TimestampParts) → IsTimestampBody body t → timestamp_of_body body ≡ Ok t
timestamp_read body t b =
    let offset = offset_from b.below b.minutes in
    let so = shown_so t b.utc offset (fields_are b.fields b.utc b.are_fields) (near_from b.below b.minutes b.range) b.is b.precision b.offset b.at in
    body_due body b.ahead b.fields b.below b.minutes (Ok t) b.cut b.is_ahead b.range
    (ap (shown_by offset) (fields_judged.due b.fields (Ok b.utc) (reads b.utc b.are_fields)) ∙ so)

-- and one that is too large is refused as such
pub body_large : (body : List ℕ) → IsLargeBody body → timestamp_of_body body ≡ Err TooLarge
unfolding timestamp_of_body read_offset
body_large body (inl r) = rw (var_int_reaches body r) refl
body_large body (inr l) = body_due body l.ahead l.fields l.below l.minutes (Err TooLarge) l.cut l.is l.range
    (ap (shown_by (offset_from l.below l.minutes)) (fields_judged.due l.fields (Err TooLarge) (too_large l.large)))
