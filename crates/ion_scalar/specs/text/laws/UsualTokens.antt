-- Timestamps of usual forms, read from their tokens.
use Rattle.std.proofs.Common.{◌≡◌, ℕ, ◌+◌, ◌<◌, ◌≤◌, ◌-◌, ◌*◌, ◌^◌, ◌==◌, if◌then◌else◌, true, false, ◌⊎◌, inl, inr, List, [], ◌∷◌, length, take, drop, min, get_or, ℤ, pos, neg_ℤ, ◌-ℤ◌, refl, sym, ap, subst, ◌∙◌, arith, Option, Some, None, IfSome, SomeIff}
use Rattle.std.proofs.lemmas.Bool.{eq-eqb, ne_eqb}
use Rattle.std.proofs.lemmas.List.{drop_more, drop_all}
use Rattle.std.proofs.lemmas.Int.{ints}
use Rattle.std.proofs.Math.Nat.{pow-le-pow_right}
use Rattle.ion_scalar.specs.Names.{AreTwoAt, BeginsWithDay, BeginsWithMinute, HasOffset, InYears, IsAt, IsCut, IsDate, IsDigits, IsMinute, IsOffset, IsOffsetToken, IsShort, IsTime, IsTimestamp, IsTimestampToken, Local, Precision, Stamp, TimestampParts, continued, dated, day, farthest_offset, four, fraction, last_year, local_date, local_minute, minute, minute_number, minute_read, minutes_ahead, month, offset_minutes, offset_read, precision_rank, second, stamp, timed, two, year}
use Rattle.ion_atoms.specs.laws.Calendar.{minute-in_years}
use Rattle.ion_scalar.specs.binary.laws.Shifted.{moved_out, moved_stays}
use Rattle.ion_scalar.specs.text.laws.ShortNumbers.{PlainRun, below_room}
use Rattle.ion_scalar.specs.text.laws.TimestampForms.{ShownEnd, end_some, made, number_small, short_parts}

-- a day and time whose clock isn't ahead of UTC are a timestamp
pub there_in_utc : (l : Local) (p : Precision) (o : Option ℤ) → IsDate (local_date l) → IsTime l → IsCut p l → HasOffset p o → minutes_ahead o ≡ pos 0
    → IsTimestamp (record { local = l; precision = p; offset = o })
there_in_utc l p o date time cut offset utc =
    let is : IsMinute (local_minute l) = record { date = date; hour = time.0; minute = time.1 } in
    let years = minute-in_years (local_minute l) is in
    record {
      date = date;
      time = time;
      cut = cut;
      offset = offset;
      years = (omega (arith, ints, utc, years.0), omega (arith, ints, utc, years.1));
    }

-- a token of a day, and the parts that it spells
pub day_spelled : (os : List ℕ) (l : Local) (t : TimestampParts) → (length os ≡ 10) ⊎ ((length os ≡ 11) × IsAt os 10 84) → BeginsWithDay os
    → l ≡ (dated Precision.Day (four os 0) (two os 5) (two os 8)).local → t ≡ record { local = l; precision = Precision.Day; offset = None }
    → IsTimestampToken os t
day_spelled os l t long is same e =
    subst (IsTimestampToken os) (sym (e ∙ (λ i. record { local = same i; precision = Precision.Day; offset = None }))) (day (is, long))

-- `Z` alone is the offset of UTC
z_alone : (os : List ℕ) (at : ℕ) → length os ≡ at + 1 → get_or os at 0 ≡ 90 → IsOffsetToken (drop at os) × (offset_read (drop at os) ≡ Some (pos 0))
z_alone os at long z =
    let e : drop at os ≡ 90 ∷ [] = drop_more os at 0 (omega arith) ∙ (ap (λ c. c ∷ drop (at + 1) os) z ∙ ap (λ (x : List ℕ). 90 ∷ x) (drop_all (at + 1) os (omega arith))) in
    rw e (inl (refl, (omega arith, refl)), refl)

-- a token of a second with `Z`, and the parts that it spells
pub second_spelled : (os : List ℕ) (l : Local) (t : TimestampParts) → length os ≡ 20 → BeginsWithMinute os → get_or os 16 0 ≡ 58 → AreTwoAt os 17
    → get_or os 19 0 ≡ 90 → l ≡ record (minute_read os) { second = two os 17 } → t ≡ record { local = l; precision = Precision.Second; offset = Some (pos 0) }
    → IsTimestampToken os t
second_spelled os l t long is colon digits z same e =
    let offset = z_alone os 19 long z in
    let parts : t ≡ timed os Precision.Second (two os 17) 0 (drop 19 os) =
    e ∙ (λ i. record { local = same i; precision = Precision.Second; offset = sym offset.1 i }) in
    subst (IsTimestampToken os) (sym parts) (second (is, (omega arith, colon), digits) offset.0)

-- the minutes of an offset's token are less than a day either way
signed_near : (c n : ℕ) → n ≤ farthest_offset → IfSome (if c == 43 then Some (pos n) else if n == 0 then None else Some (neg_ℤ (pos n))) IsOffset
signed_near c n few =
    elim (c == 43) as (λ v. IfSome (if v then Some (pos n) else if n == 0 then None else Some (neg_ℤ (pos n))) IsOffset) [
      | true ↦ (omega (arith, ints), omega (arith, ints))
      | false ↦ elim (n == 0) as (λ v. IfSome (if v then None else Some (neg_ℤ (pos n))) IsOffset) [
        | true ↦ tt
        | false ↦ (omega (arith, ints), omega (arith, ints))
      ]
    ]

offset_near : (os : List ℕ) → IsOffsetToken os → IfSome (offset_read os) IsOffset
offset_near os (inl z) = rw (eq-eqb (get_or os 0 0) 90 z.1.1) (omega (arith, ints), omega (arith, ints))
offset_near os (inr h) =
    let no_z : (get_or os 0 0 ≡ 90) → ⊥ = λ z. elim (h.1) [ inl p ↦ absurd (omega (arith, p.1)) | inr p ↦ absurd (omega (arith, p.1)) ] in
    rw (ne_eqb (get_or os 0 0) 90 no_z) (signed_near (get_or os 0 0) (offset_minutes os) (omega (arith, h.5, h.6)))

timed_offset : (p : Precision) (o : Option ℤ) → 3 ≤ precision_rank p → IfSome o IsOffset → HasOffset p o
timed_offset Precision.Minute None late near = tt
timed_offset Precision.Minute (Some minutes) late near = near
timed_offset Precision.Second None late near = tt
timed_offset Precision.Second (Some minutes) late near = near
timed_offset (Precision.Fraction digits) None late near = tt
timed_offset (Precision.Fraction digits) (Some minutes) late near = near
timed_offset _ o late near = absurd (omega arith)

ahead_near : (o : Option ℤ) → IfSome o IsOffset → IsOffset (minutes_ahead o)
ahead_near None near = (omega (arith, ints), omega (arith, ints))
ahead_near (Some minutes) near = near

-- a day and time of the years 2 to 9998 are a timestamp with each offset
there_moved : (l : Local) (o : Option ℤ) → IsDate (local_date l) → IsTime l → 2 ≤ l.year → l.year < last_year → IsOffset (minutes_ahead o)
    → InYears (pos (minute_number (local_minute l)) -ℤ minutes_ahead o)
there_moved l o date time low high near =
    let m = local_minute l in
    let is : IsMinute m = record { date = date; hour = time.0; minute = time.1 } in
    let by = pos 0 -ℤ minutes_ahead o in
    let back : IsOffset by = (omega (arith, ints, near.0, near.1), omega (arith, ints, near.0, near.1)) in
    let years = moved_stays m by low high in
    let out = moved_out m by is back years.0 years.1 in
    (omega (arith, ints, out.0), omega (arith, ints, out.1))

there_timed : (l : Local) (p : Precision) (o : Option ℤ) → IsDate (local_date l) → IsTime l → IsCut p l → 3 ≤ precision_rank p → IfSome o IsOffset
    → 2 ≤ l.year → l.year < last_year → IsTimestamp (record { local = l; precision = p; offset = o })
there_timed l p o date time cut late near low high = record {
  date = date;
  time = time;
  cut = cut;
  offset = timed_offset p o late near;
  years = there_moved l o date time low high (ahead_near o near);
}

some_digits : (digits : List ℕ) → IsDigits 10 digits → 1 ≤ length digits
some_digits [] h = absurd h
some_digits (c ∷ os) h = omega arith

-- the parts that a token spells are a timestamp, if there is such a day and time in a year from 2 to 9998
pub spelled_there : (os : List ℕ) (t : TimestampParts) → IsTimestampToken os t → IsShort t.precision → IsDate (local_date t.local) → IsTime t.local
    → 2 ≤ t.local.year → t.local.year < last_year → IsTimestamp t
spelled_there os _ (year h) short date time low high = there_in_utc _ _ _ date time (refl, refl, refl, refl, refl, refl) refl refl
spelled_there os _ (month h) short date time low high = there_in_utc _ _ _ date time (refl, refl, refl, refl, refl) refl refl
spelled_there os _ (day h) short date time low high = there_in_utc _ _ _ date time (refl, refl, refl, refl) refl refl
spelled_there os _ (minute h o) short date time low high =
    there_timed _ Precision.Minute (offset_read (drop 16 os)) date time (refl, refl) (omega arith) (offset_near (drop 16 os) o) low high
spelled_there os _ (second h o) short date time low high =
    there_timed _ Precision.Second (offset_read (drop 19 os)) date time refl (omega arith) (offset_near (drop 19 os) o) low high
spelled_there os _ (fraction h p digits rest e) short date time low high =
    there_timed _ (Precision.Fraction (length digits)) (offset_read rest) date time
    (some_digits digits e.plain.0, short, rw e.plain.1 at (number_small digits e.plain.0)) (omega arith) (offset_near rest e.offset) low high

-- so are the parts that are read of it
pub usual_there : (os : List ℕ) (t : TimestampParts) (s : Stamp) → IsTimestampToken os t → s ≡ stamp t → IsShort s.precision → IsDate (local_date s.local)
    → IsTime s.local → (2 ≤ s.local.year) × (s.local.year < last_year)
    → IsTimestamp (record { local = s.local; precision = s.precision; offset = s.offset })
usual_there os t s is e short date time years =
    let k = short_parts os t s is e short in
    let P : TimestampParts → Type 0 = λ x. IsDate (local_date x.local) × IsTime x.local × (2 ≤ x.local.year) × (x.local.year < last_year) in
    let p = subst P (sym k.1) (date, time, years.0, years.1) in
    subst IsTimestamp k.1 (spelled_there os t is k.0 p.0 p.1 p.2 p.3)

-- what is read of a token, where it is a timestamp, is what the token spells
pub usual_spelled : (os : List ℕ) (t : TimestampParts) (s : Stamp) (r : Option TimestampParts) → IsTimestampToken os t → s ≡ stamp t
    → IfSome r (λ x. IsShort s.precision × IsTimestamp (record { local = s.local; precision = s.precision; offset = s.offset })
    × (x ≡ record { local = s.local; precision = s.precision; offset = s.offset }))
    → IfSome r (λ x. IsTimestampToken os x × IsTimestamp x)
usual_spelled os t s None is e h = tt
usual_spelled os t s (Some x) is e h = made os t x (record { local = s.local; precision = s.precision; offset = s.offset }) is (short_parts os t s is e h.0).1 (h.1, h.2)

-- digits of at most 19 octets, and the offset behind them, are read as a fraction's end
pub short_end : (os : List ℕ) (l : Local) (used value : ℕ) (r : Option Stamp) → PlainRun os 0 used value → 0 < used → length os ≤ 19
    → SomeIff r (IsOffsetToken (drop used os))
    (record { local = record l { fraction = value }; precision = Precision.Fraction used; offset = offset_read (drop used os) }) → IfSome r (ShownEnd l os)
short_end os l used value r run some few h =
    let all : 10 ^ length os ≤ 10 ^ 19 = pow-le-pow_right (omega arith) few in
    let small : value < (0 + 1) * 10 ^ length os = below_room 10 value (length os - used) _ (omega arith) run.room in
    let capped : value ≡ min (continued 10 0 (take used os)) (2 ^ 127) = omega (arith, run.counts) in
    end_some os l used used value used r (run.digits some) run.within (sym run.many) refl capped (omega (arith, run.within)) h
