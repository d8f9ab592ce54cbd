-- The fields of a timestamp's body are read as what they are.
use Rattle.std.proofs.Common.{◌≡◌, ◌⊎◌, ℕ, cond, Bool, true, false, [], ◌∷◌, ◌++◌, ◌^◌, ◌<◌, ◌≤◌, List, length, take, drop, refl, sym, ap, subst, ◌+◌, arith, length-append, Ok, Err, Result, inl, inr}
use Rattle.std.specs.Prelude.{nat_lt, ◌&&◌}
use Rattle.std.proofs.lemmas.Bool.{and_right, cases_lt, le-leb, le-ltb, lt-leb, lt-ltb, cond_both}
use Rattle.std.proofs.lemmas.List.{take-append-drop}
use Rattle.std.proofs.Math.Nat.{pow-le-pow_right}
use Rattle.std.proofs.Math.Seq.{drop-append_seam}
use Rattle.ion_scalar.specs.Names.{AreFields, Begins, BeginsWith, Date, Incomplete, IsBehindDay, IsBehindHour, IsBehindMinute, IsBehindMonth, IsBehindSecond, IsBehindYear, IsCut, IsDate, IsFractionOf, IsMinute, Malformed, Minute, Precision, ReadsVarInt, ReadsVarUInt, Reason, Signed, TooLarge, Utc, VarInt, VarUInt, and_then, day_of, in_range, int_magnitude, int_negative, last_hour, last_minute, last_month, last_second, last_year, local_in, long, minute_of, month_length, most_digits, read_behind_day, read_behind_hour, read_behind_minute, read_behind_month, read_behind_second, read_behind_year, read_field, read_fields, read_fraction, read_no_digits, short, signed_of, time_known, var_int, var_uint, with_power, IsLargePart, EndsOr, IsLargeBehindSecond, IsLargeBehindMinute, IsLargeBehindHour, IsLargeBehindDay, IsLargeBehindMonth, IsLargeBehindYear, AreLargeFields, ends_or, day_known}
use Rattle.ion_atoms.specs.laws.Neighbours.{month_least}
use Rattle.ion_scalar.specs.binary.laws.VarInt.{var_int_answers, var_int_read, var_int_reaches}
use Rattle.ion_scalar.specs.binary.laws.VarUInt.{var_uint_answers, var_uint_read, var_uint_reaches}

-- fields of a day and a time of day, those past the precision the least
pub record IsUtc (utc : Utc) : Type 0 where
  pub minute : IsMinute utc.minute
  pub second : utc.second ≤ last_second
  pub cut : IsCut utc.precision (local_in utc utc.minute)

-- what octets are due to be read as: what they were asked for, or too large for it
pub data Says {X : Type 0} (Is : X → Type 0) (Large : Type 0) : Result X Reason → Type 0 where
  reads : (x : X) → Is x → Says Is Large (Ok x)
  too_large : Large → Says Is Large (Err TooLarge)

-- an answer says so, or that they are malformed
abbrev pub Answers : {X : Type 0} → (X → Type 0) → Type 0 → Result X Reason → Type 0
Answers Is Large r = Says Is Large r ⊎ (r ≡ Err Malformed)

pub says_map : {X : Type 0} (P Q : X → Type 0) (L M : Type 0) (r : Result X Reason) → ((x : X) → P x → Q x) → (L → M) → Answers P L r
    → Answers Q M r
says_map P Q L M _ f g (inl (reads x h)) = inl (reads x (f x h))
says_map P Q L M _ f g (inl (too_large h)) = inl (too_large (g h))
says_map P Q L M r f g (inr e) = inr e

-- octets that are read as something are it
pub told : {X : Type 0} (Is : X → Type 0) (Large : Type 0) (r : Result X Reason) (x : X) → Answers Is Large r → r ≡ Ok x → Is x
told Is Large _ x (inl (reads y h)) e = let same : y ≡ x = cc in subst Is same h
told Is Large _ x (inl (too_large h)) e = absurd cc
told Is Large r x (inr f) e = absurd cc

-- octets are judged as what they are, and each answer says what they are
pub record Judged (Is : List ℕ → Utc → Type 0) (Large : List ℕ → Type 0) (judge : List ℕ → Result Utc Reason) : Type 0 where
  pub answers : (octets : List ℕ) → Answers (Is octets) (Large octets) (judge octets)
  pub due : (octets : List ℕ) (answer : Result Utc Reason) → Says (Is octets) (Large octets) answer → judge octets ≡ answer

field_read : (least most : ℕ) (w rest : List ℕ) (n : ℕ) → VarUInt w n → least ≤ n → n ≤ most → read_field least most (w ++ rest) ≡ Ok (n, length w)
unfolding read_field
field_read least most w rest n is low high = rw (var_uint_read w rest n is, le-leb least n low, le-leb n most high) refl

-- a part that begins has an octet
begins_some : (least most : ℕ) (Behind : ℕ → List ℕ → Type 0) → Begins least most Behind [] → ⊥
begins_some least most Behind b =
    absurd (omega (arith, ap length b.cut, ap length b.is.octets, length-append b.field b.rest, length-append b.is.digits ((128 + b.is.last) ∷ [])))

module _ (least most : ℕ) (Is : ℕ → List ℕ → Utc → Type 0) (Large : ℕ → List ℕ → Type 0) (judge : ℕ → List ℕ → Result Utc Reason)
    (behind : (n : ℕ) → Judged (Is n) (Large n) (judge n)) where
  abbrev IsPart : List ℕ → Utc → Type 0
  IsPart octets utc = Begins least most (λ n rest. Is n rest utc) octets

  begun : (P : ℕ → List ℕ → Type 0) (octets : List ℕ) (read : ℕ × ℕ) → BeginsWith octets read.0 read.1 → least ≤ read.0 → read.0 ≤ most
      → P read.0 (drop read.1 octets) → Begins least most P octets
  begun P octets read a low high h = record {
    field = take read.1 octets;
    rest = drop read.1 octets;
    number = read.0;
    cut = sym (take-append-drop read.1 octets);
    is = a.is;
    range = (low, high);
    behind = h;
  }

  part_on : (octets : List ℕ) (r : Result (ℕ × ℕ) Reason) → ReadsVarUInt octets r
      → Answers (IsPart octets) (IsLargePart least most Large octets) (and_then octets judge (in_range least most r))
  part_on octets (Ok read) a =
      let rest = drop read.1 octets in
      elim (cases_lt read.0 least) [
        | inl low ↦ rw (lt-leb least read.0 low) (inr refl)
        | inr low ↦ elim (cases_lt most read.0) [
          | inl beyond ↦ rw (le-leb least read.0 low, lt-leb read.0 most beyond) (inr refl)
          | inr high ↦ rw (le-leb least read.0 low, le-leb read.0 most high)
              (says_map (Is read.0 rest) (IsPart octets) (Large read.0 rest) (IsLargePart least most Large octets) (judge read.0 rest)
              (λ utc h. begun (λ n os. Is n os utc) octets read a low high h) (λ h. inr (begun Large octets read a low high h))
              ((behind read.0).answers rest))
        ]
      ]
  part_on octets (Err TooLarge) a = inl (too_large (inl a))
  part_on octets (Err Incomplete) a = inr refl
  part_on octets (Err _) a = absurd a

  part_read : (P : ℕ → List ℕ → Type 0) (answer : Result Utc Reason) (octets : List ℕ) → ((n : ℕ) (rest : List ℕ) → P n rest → judge n rest ≡ answer)
      → Begins least most P octets → and_then octets judge (read_field least most octets) ≡ answer
  part_read P answer octets is b =
      let Q : List ℕ → Type 0 = λ os. and_then os judge (read_field least most os) ≡ answer in
      let here : Q (b.field ++ b.rest) =
      rw (field_read least most b.field b.rest b.number b.is b.range.0 b.range.1, drop-append_seam b.field b.rest) (is b.number b.rest b.behind) in
      subst Q (sym b.cut) here

  part_due : (octets : List ℕ) (answer : Result Utc Reason) → Says (IsPart octets) (IsLargePart least most Large octets) answer
      → and_then octets judge (read_field least most octets) ≡ answer
  unfolding read_field
  part_due octets _ (reads utc b) = part_read (λ n rest. Is n rest utc) (Ok utc) octets (λ n rest h. (behind n).due rest (Ok utc) (reads utc h)) b
  part_due octets _ (too_large (inl r)) = rw (var_uint_reaches octets r) refl
  part_due octets _ (too_large (inr b)) = part_read Large (Err TooLarge) octets (λ n rest h. (behind n).due rest (Err TooLarge) (too_large h)) b

  -- a part that has to stand there
  part_judged : Judged IsPart (IsLargePart least most Large) (λ octets. and_then octets judge (read_field least most octets))
  unfolding read_field
  part_judged = record { answers = λ octets. part_on octets (var_uint octets) (var_uint_answers octets); due = part_due }

  ends_answers : (known : Utc) (octets : List ℕ)
      → Answers (EndsOr known least most Is octets) (IsLargePart least most Large octets) (ends_or known least most judge octets)
  ends_answers known [] = inl (reads known (inl (refl, refl)))
  ends_answers known (o ∷ os) = says_map (IsPart (o ∷ os)) (EndsOr known least most Is (o ∷ os)) (IsLargePart least most Large (o ∷ os)) _ _
      (λ utc h. inr h) (λ h. h) (part_judged.answers (o ∷ os))

  ends_due : (known : Utc) (octets : List ℕ) (answer : Result Utc Reason)
      → Says (EndsOr known least most Is octets) (IsLargePart least most Large octets) answer → ends_or known least most judge octets ≡ answer
  ends_due known octets _ (reads utc (inl none)) = rw (none.0, none.1) refl
  ends_due known [] _ (reads utc (inr b)) = absurd (begins_some least most _ b)
  ends_due known (o ∷ os) _ (reads utc (inr b)) = part_due (o ∷ os) (Ok utc) (reads utc b)
  ends_due known [] _ (too_large (inl r)) = absurd (omega (arith, ap length r.cut, length-append r.digits (r.octet ∷ r.rest)))
  ends_due known [] _ (too_large (inr b)) = absurd (begins_some least most _ b)
  ends_due known (o ∷ os) _ (too_large l) = part_due (o ∷ os) (Err TooLarge) (too_large l)

  -- a part that may be absent
  ends_judged : (known : Utc) → Judged (EndsOr known least most Is) (IsLargePart least most Large) (ends_or known least most judge)
  ends_judged known = record { answers = ends_answers known; due = ends_due known }

-- a coefficient by its exponent
abbrev LargeParts : Bool → ℕ → List ℕ → Type 0
LargeParts below power octets = ((below ≡ true) × (most_digits < power)) ⊎ (2 ^ 127 ≤ int_magnitude octets)

module _ (minute : Minute) (second : ℕ) (octets : List ℕ) where
  abbrev Fraction : Bool → ℕ → Result Utc Reason → Type 0
  Fraction below power = Answers (IsFractionOf below power octets minute second) (LargeParts below power octets)

  abbrev within : ℕ → Result Utc Reason
  within power = cond (nat_lt (int_magnitude octets) (10 ^ power))
      (Ok (time_known (Precision.Fraction power) minute second (int_magnitude octets))) (Err Malformed)

  module _ (power : ℕ) (some : 1 ≤ power) (few : power ≤ most_digits) where
    bounded : (int_negative octets ≡ false) ⊎ (int_magnitude octets ≡ 0) → Fraction true power (within power)
    bounded plus =
        elim (cases_lt (int_magnitude octets) (10 ^ power)) [
          | inl small ↦ rw (lt-ltb (int_magnitude octets) (10 ^ power) small) (inl (reads _ (inl (refl, some, few, plus, small, refl))))
          | inr wide ↦ rw (le-ltb (int_magnitude octets) (10 ^ power) wide) (inr refl)
        ]

    digits_answers : (negative : Bool) → (negative ≡ false → int_negative octets ≡ false)
        → Fraction true power (cond (negative && nat_lt 0 (int_magnitude octets)) (Err Malformed) (within power))
    digits_answers false plus = bounded (inl (plus refl))
    digits_answers true plus =
        elim (cases_lt 0 (int_magnitude octets)) [
          | inl minus ↦ rw (lt-ltb 0 (int_magnitude octets) minus) (inr refl)
          | inr none ↦ rw (le-ltb 0 (int_magnitude octets) none) (bounded (inr (omega arith)))
        ]

  no_digits_answers : (below : Bool) (power : ℕ) → (below ≡ false) ⊎ (power ≡ 0) → Fraction below power (read_no_digits minute second octets)
  no_digits_answers below power whole =
      elim (cases_lt 0 (int_magnitude octets)) [
        | inl some ↦ rw (lt-ltb 0 (int_magnitude octets) some) (inr refl)
        | inr none ↦ rw (le-ltb 0 (int_magnitude octets) none) (inl (reads _ (inr (whole, omega arith, refl))))
      ]

  fraction_answers : (below : Bool) (power : ℕ) → Fraction below power (read_fraction minute second (signed_of below power) octets)
  unfolding read_fraction
  fraction_answers false power =
      elim (cases_lt (int_magnitude octets) (2 ^ 127)) [
        | inl small ↦ rw (lt-ltb (int_magnitude octets) (2 ^ 127) small) (no_digits_answers false power (inl refl))
        | inr high ↦ rw (le-ltb (int_magnitude octets) (2 ^ 127) high) (inl (too_large (inr high)))
      ]
  fraction_answers true power =
      elim (cases_lt most_digits power) [
        | inl many ↦ rw (lt-ltb most_digits power many) (inl (too_large (inl (refl, many))))
        | inr few ↦ elim (cases_lt (int_magnitude octets) (2 ^ 127)) [
          | inr high ↦ rw (le-ltb most_digits power few, le-ltb (int_magnitude octets) (2 ^ 127) high) (inl (too_large (inr high)))
          | inl small ↦ elim (cases_lt 0 power) [
            | inl some ↦ rw (le-ltb most_digits power few, lt-ltb (int_magnitude octets) (2 ^ 127) small, lt-ltb 0 power some)
                (digits_answers power some few (int_negative octets) (λ e. e))
            | inr zeroth ↦ rw (le-ltb most_digits power few, lt-ltb (int_magnitude octets) (2 ^ 127) small, le-ltb 0 power zeroth)
                (no_digits_answers true power (inr (omega arith)))
          ]
        ]
      ]

  -- a coefficient that is a fraction by its exponent is read as it
  pub fraction_read : (utc : Utc) (below : Bool) (power : ℕ) → IsFractionOf below power octets minute second utc
      → read_fraction minute second (signed_of below power) octets ≡ Ok utc
  unfolding read_fraction
  fraction_read utc below power (inl (b, some, few, sign, bound, same)) =
      let most : 10 ^ power ≤ 10 ^ most_digits = pow-le-pow_right (omega arith) few in
      let small : int_magnitude octets < 2 ^ 127 = omega (arith, most) in
      let no_minus : (int_negative octets && nat_lt 0 (int_magnitude octets)) ≡ false = elim sign [
        | inl plus ↦ rw plus refl
        | inr nothing ↦ rw nothing (and_right (int_negative octets) false refl)
      ] in
      rw (
        b,
        le-ltb most_digits power few,
        lt-ltb (int_magnitude octets) (2 ^ 127) small,
        lt-ltb 0 power some,
        no_minus,
        lt-ltb (int_magnitude octets) (10 ^ power) bound,
      ) (ap Ok (sym same))
  fraction_read utc below power (inr (whole, nothing, same)) =
      let few : (below && nat_lt most_digits power) ≡ false = elim whole [
        | inl plus ↦ rw plus refl
        | inr zeroth ↦ rw zeroth (and_right below false refl)
      ] in
      let no_power : (below && nat_lt 0 power) ≡ false = elim whole [
        | inl plus ↦ rw plus refl
        | inr zeroth ↦ rw zeroth (and_right below false refl)
      ] in
      rw (few, nothing, no_power) (ap Ok (sym same))

  fraction_due : (below : Bool) (power : ℕ) (answer : Result Utc Reason)
      → Says (IsFractionOf below power octets minute second) (LargeParts below power octets) answer
      → read_fraction minute second (signed_of below power) octets ≡ answer
  unfolding read_fraction
  fraction_due below power _ (reads utc f) = fraction_read utc below power f
  fraction_due below power _ (too_large (inl h)) = rw (h.0, lt-ltb most_digits power h.1) refl
  fraction_due below power _ (too_large (inr high)) =
      rw (le-ltb (int_magnitude octets) (2 ^ 127) high)
      (cond_both (below && nat_lt most_digits power) _ _ (λ (r : Result Utc Reason). r ≡ Err TooLarge) (λ _. refl) (λ _. refl))

-- a VarInt has an octet
int_some : (w rest : List ℕ) (below : Bool) (n : ℕ) → VarInt w below n → [] ≡ w ++ rest → ⊥
int_some _ rest _ _ (short octet high) e = cc
int_some _ rest _ _ (long octet digits last low s bound) e = cc

-- what stands behind the second
module _ (minute : Minute) (second : ℕ) where
  power_answers : (octets : List ℕ) (r : Result (Signed × ℕ) Reason) → ReadsVarInt octets r
      → Answers (IsBehindSecond minute second octets) (IsLargeBehindSecond octets) (with_power minute second octets r)
  power_answers octets (Ok read) a =
      let below = read.0.negative in
      let power = read.0.magnitude in
      let rest = drop read.1 octets in
      let cut = sym (take-append-drop read.1 octets) in
      says_map (IsFractionOf below power rest minute second) (IsBehindSecond minute second octets) (LargeParts below power rest) (IsLargeBehindSecond octets) _
      (λ utc h. inr (record { exponent = take read.1 octets; coefficient = rest; below = below; power = power; cut = cut; is = a.is; fraction = h }))
      (λ h. inr (record { exponent = take read.1 octets; coefficient = rest; below = below; power = power; cut = cut; is = a.is; large = h }))
      (fraction_answers minute second rest below power)
  power_answers octets (Err TooLarge) a = inl (too_large (inl a))
  power_answers octets (Err Incomplete) a = inr refl
  power_answers octets (Err _) a = absurd a

  power_due : (octets exponent coefficient : List ℕ) (below : Bool) (power : ℕ) (answer : Result Utc Reason) → octets ≡ exponent ++ coefficient
      → VarInt exponent below power → read_fraction minute second (signed_of below power) coefficient ≡ answer
      → with_power minute second octets (var_int octets) ≡ answer
  power_due octets exponent coefficient below power answer cut is h =
      let P : List ℕ → Type 0 = λ os. with_power minute second os (var_int os) ≡ answer in
      let here : P (exponent ++ coefficient) = rw (var_int_read exponent coefficient below power is, drop-append_seam exponent coefficient) h in
      subst P (sym cut) here

  second_answers : (octets : List ℕ) → Answers (IsBehindSecond minute second octets) (IsLargeBehindSecond octets) (read_behind_second minute second octets)
  unfolding read_behind_second
  second_answers [] = inl (reads _ (inl (refl, refl)))
  second_answers (o ∷ os) = power_answers (o ∷ os) (var_int (o ∷ os)) (var_int_answers (o ∷ os))

  second_due : (octets : List ℕ) (answer : Result Utc Reason) → Says (IsBehindSecond minute second octets) (IsLargeBehindSecond octets) answer
      → read_behind_second minute second octets ≡ answer
  unfolding read_behind_second
  second_due octets _ (reads utc (inl none)) = rw (none.0, none.1) refl
  second_due [] _ (reads utc (inr f)) = absurd (int_some f.exponent f.coefficient f.below f.power f.is f.cut)
  second_due (o ∷ os) _ (reads utc (inr f)) = power_due (o ∷ os) f.exponent f.coefficient f.below f.power (Ok utc) f.cut f.is
      (fraction_due minute second f.coefficient f.below f.power (Ok utc) (reads utc f.fraction))
  second_due [] _ (too_large (inl r)) = absurd r
  second_due [] _ (too_large (inr f)) = absurd (int_some f.exponent f.coefficient f.below f.power f.is f.cut)
  second_due (o ∷ os) _ (too_large (inl r)) = rw (var_int_reaches (o ∷ os) r) refl
  second_due (o ∷ os) _ (too_large (inr f)) = power_due (o ∷ os) f.exponent f.coefficient f.below f.power (Err TooLarge) f.cut f.is
      (fraction_due minute second f.coefficient f.below f.power (Err TooLarge) (too_large f.large))

  second_judged : Judged (IsBehindSecond minute second) IsLargeBehindSecond (read_behind_second minute second)
  second_judged = record { answers = second_answers; due = second_due }

minute_judged : (minute : Minute) → Judged (IsBehindMinute minute) IsLargeBehindMinute (read_behind_minute minute)
unfolding read_behind_minute
minute_judged minute = ends_judged 0 last_second (IsBehindSecond minute) (λ _. IsLargeBehindSecond) (read_behind_second minute) (second_judged minute)
    (time_known Precision.Minute minute 0 0)

hour_judged : (date : Date) (hour : ℕ) → Judged (IsBehindHour date hour) IsLargeBehindHour (read_behind_hour date hour)
unfolding read_behind_hour
hour_judged date hour = part_judged 0 last_minute (λ n. IsBehindMinute (minute_of date hour n)) (λ _. IsLargeBehindMinute)
    (λ n. read_behind_minute (minute_of date hour n)) (λ n. minute_judged (minute_of date hour n))

day_judged : (date : Date) → Judged (IsBehindDay date) IsLargeBehindDay (read_behind_day date)
unfolding read_behind_day
day_judged date = ends_judged 0 last_hour (IsBehindHour date) (λ _. IsLargeBehindHour) (read_behind_hour date) (hour_judged date)
    (day_known Precision.Day date)

month_judged : (year month : ℕ) → Judged (IsBehindMonth year month) (IsLargeBehindMonth year month) (read_behind_month year month)
unfolding read_behind_month
month_judged year month = ends_judged 1 (month_length year month) (λ n. IsBehindDay (day_of year month n)) (λ _. IsLargeBehindDay)
    (λ n. read_behind_day (day_of year month n)) (λ n. day_judged (day_of year month n)) (day_known Precision.Month (day_of year month 1))

year_judged : (year : ℕ) → Judged (IsBehindYear year) (IsLargeBehindYear year) (read_behind_year year)
unfolding read_behind_year
year_judged year = ends_judged 1 last_month (IsBehindMonth year) (IsLargeBehindMonth year) (read_behind_month year) (month_judged year)
    (day_known Precision.Year (day_of year 1 1))

-- octets are judged as the fields that they are
pub fields_judged : Judged AreFields AreLargeFields read_fields
unfolding read_fields
fields_judged = part_judged 1 last_year IsBehindYear IsLargeBehindYear read_behind_year year_judged

pub fields_told : (utc : Utc) (octets : List ℕ) → read_fields octets ≡ Ok utc → AreFields octets utc
fields_told utc octets e = told (AreFields octets) (AreLargeFields octets) (read_fields octets) utc (fields_judged.answers octets) e

-- fields that stand in a body are those of a day and a time of day
second_is : (minute : Minute) (second : ℕ) (octets : List ℕ) (utc : Utc) → IsMinute minute → second ≤ last_second
    → IsBehindSecond minute second octets utc → IsUtc utc
second_is minute second octets utc h s (inl none) = subst IsUtc (sym none.1) (record { minute = h; second = s; cut = refl })
second_is minute second octets utc h s (inr f) =
    elim (f.fraction) [
      | inl d ↦ subst IsUtc (sym d.5) (record { minute = h; second = s; cut = (d.1, d.2, d.4) })
      | inr d ↦ subst IsUtc (sym d.2) (record { minute = h; second = s; cut = refl })
    ]

minute_is : (minute : Minute) (octets : List ℕ) (utc : Utc) → IsMinute minute → IsBehindMinute minute octets utc → IsUtc utc
minute_is minute octets utc h (inl none) = subst IsUtc (sym none.1) (record { minute = h; second = omega arith; cut = (refl, refl) })
minute_is minute octets utc h (inr b) = second_is minute b.number b.rest utc h b.range.1 b.behind

hour_is : (date : Date) (hour : ℕ) (octets : List ℕ) (utc : Utc) → IsDate date → hour ≤ last_hour → IsBehindHour date hour octets utc → IsUtc utc
hour_is date hour octets utc h k b = minute_is (minute_of date hour b.number) b.rest utc (record { date = h; hour = k; minute = b.range.1 }) b.behind

-- a day of which no time is known
day_least : (precision : Precision) (date : Date) → IsDate date → IsCut precision (local_in (day_known precision date) (minute_of date 0 0))
    → IsUtc (day_known precision date)
day_least precision date h cut =
    record { minute = record { date = h; hour = omega arith; minute = omega arith }; second = omega arith; cut = cut }

day_is : (date : Date) (octets : List ℕ) (utc : Utc) → IsDate date → IsBehindDay date octets utc → IsUtc utc
day_is date octets utc h (inl none) = subst IsUtc (sym none.1) (day_least Precision.Day date h (refl, refl, refl, refl))
day_is date octets utc h (inr b) = hour_is date b.number b.rest utc h b.range.1 b.behind

month_is : (year month : ℕ) (octets : List ℕ) (utc : Utc) → (1 ≤ year) × (year ≤ last_year) → (1 ≤ month) × (month ≤ last_month)
    → IsBehindMonth year month octets utc → IsUtc utc
month_is year month octets utc y m (inl none) =
    let date : IsDate (day_of year month 1) = record { year = y; month = m; day = (omega arith, omega (arith, month_least year month)) } in
    subst IsUtc (sym none.1) (day_least Precision.Month (day_of year month 1) date (refl, refl, refl, refl, refl))
month_is year month octets utc y m (inr b) = day_is (day_of year month b.number) b.rest utc (record { year = y; month = m; day = b.range }) b.behind

year_is : (year : ℕ) (octets : List ℕ) (utc : Utc) → (1 ≤ year) × (year ≤ last_year) → IsBehindYear year octets utc → IsUtc utc
year_is year octets utc y (inl none) =
    let date : IsDate (day_of year 1 1) = record { year = y; month = (omega arith, omega arith); day = (omega arith, omega arith) } in
    subst IsUtc (sym none.1) (day_least Precision.Year (day_of year 1 1) date (refl, refl, refl, refl, refl, refl))
year_is year octets utc y (inr b) = month_is year b.number b.rest utc y b.range b.behind

-- fields in a body are those of a day and a time of day, and the ones not known are the least
pub fields_are : (octets : List ℕ) (utc : Utc) → AreFields octets utc → IsUtc utc
fields_are octets utc b = year_is b.number b.rest utc b.range b.behind
