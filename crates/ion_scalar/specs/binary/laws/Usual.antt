-- Which short bodies are read, whatever their numbers.
use Rattle.std.proofs.Common.{◌≡◌, ℕ, ℤ, cond, Bool, true, false, zero, suc, [], ◌∷◌, ◌-◌, ◌^◌, ◌<◌, ◌≤◌, List, length, drop, get_or, refl, sym, ap, subst, ◌∙◌, arith, Ok, Err, Result, Option, inl, inr}
use Rattle.std.specs.Prelude.{is_ok, IsOkAnd}
use Rattle.std.proofs.lemmas.Bool.{lt-ltb, le-ltb, le-leb, cases_lt}
use Rattle.std.proofs.Math.Nat.{pow-le-pow_right}
use Rattle.ion_scalar.specs.Names.{AreBelow, Minute, Precision, Reason, Utc, decimal_of_body, int_field, int_magnitude, int_negative, is_last, is_negative, kept_offset, last_year, minutes_ahead, moved, positional, read_behind_second, read_fields, read_fraction, read_offset, seven_bits, short, shown, signed_of, six_bits, time_known, timestamp_of_body, uint_field, var_int, with_coefficient, with_exponent, with_power}
use Rattle.ion_scalar.specs.binary.Timestamp.{shown_by}
use Rattle.ion_scalar.specs.binary.laws.Fewest.{positional_below, six_below}
use Rattle.ion_scalar.specs.binary.laws.Shifted.{moved_stays}
use Rattle.ion_scalar.specs.binary.laws.Timestamp.{fraction_read}
use Rattle.ion_scalar.specs.binary.laws.VarInt.{var_int_read}

-- 15 octets hold 120 bits
small : (octets : List ℕ) → AreBelow 256 octets → length octets < 16 → positional 256 octets < 2 ^ 127
small octets all few =
    let below = positional_below 256 octets all in
    let short : length octets ≤ 15 = omega arith in
    let most : 256 ^ length octets ≤ 256 ^ 15 = pow-le-pow_right (omega arith) short in
    omega (arith, below, most)

-- a UInt of fewer than 16 octets is read
pub usual_uint : (octets : List ℕ) → AreBelow 256 octets → length octets < 16 → is_ok (uint_field octets) ≡ true
usual_uint octets all few = rw (lt-ltb (positional 256 octets) (2 ^ 127) (small octets all few)) refl

seven_le : (b : Bool) (octet : ℕ) → cond b (octet - 128) octet ≤ octet
seven_le true octet = omega arith
seven_le false octet = omega arith

without_sign : (octet : ℕ) (rest : List ℕ) → AreBelow 256 (octet ∷ rest) → AreBelow 256 (seven_bits octet ∷ rest)
without_sign octet rest all zero h = omega (arith, all 0 (omega arith), seven_le (is_last octet) octet)
without_sign octet rest all (suc k) h = all (suc k) (omega arith)

int_small : (octets : List ℕ) → AreBelow 256 octets → length octets < 16 → int_magnitude octets < 2 ^ 127
int_small [] all few = omega arith
int_small (octet ∷ rest) all few = small (seven_bits octet ∷ rest) (without_sign octet rest all) (omega arith)

coefficient : (negative : Bool) (n : ℕ) (octets : List ℕ) → n < 64 → int_magnitude octets < 2 ^ 127 → is_ok (with_coefficient (signed_of negative n) octets)
    ≡ true
coefficient true n octets few h = rw (le-leb n (2 ^ 31) (omega arith), lt-ltb (int_magnitude octets) (2 ^ 127) h) refl
coefficient false n octets few h = rw (lt-ltb n (2 ^ 31) (omega arith), lt-ltb (int_magnitude octets) (2 ^ 127) h) refl

seven_small : (octet : ℕ) → 128 ≤ octet → octet < 256 → seven_bits octet < 128
seven_small octet high all = rw (le-leb 128 octet high) (omega arith)

-- an exponent of one octet and a coefficient of at most 14
pub usual_decimal : (octets : List ℕ) → AreBelow 256 octets → 128 ≤ get_or octets 0 0 → length octets < 16 → is_ok (decimal_of_body octets) ≡ true
unfolding decimal_of_body
usual_decimal [] all last few = refl
usual_decimal (octet ∷ rest) all last few =
    let read = ap (λ r. is_ok (with_exponent (octet ∷ rest) r)) (var_int_read (octet ∷ []) rest (is_negative octet) (six_bits octet) (short octet last)) in
    let six : six_bits octet < 64 = six_below octet (seven_small octet last (all 0 (omega arith))) in
    let behind : int_magnitude rest < 2 ^ 127 = int_small rest (λ k h. all (suc k) (omega arith)) (omega arith) in
    read ∙ coefficient (is_negative octet) (six_bits octet) rest six behind

-- fields that are read, of a year that no offset leads out of the years from
abbrev pub FarFromEnds : Utc → Type 0
FarFromEnds utc = (2 ≤ utc.minute.date.year) × (utc.minute.date.year < last_year)

far_shown : (offset : Option ℤ) (r : Result Utc Reason) → IsOkAnd r FarFromEnds → is_ok (shown_by offset r) ≡ true
unfolding shown
far_shown offset (Ok utc) far =
    let by = minutes_ahead (kept_offset utc.precision offset) in
    let years = moved_stays utc.minute by far.0 far.1 in
    rw (le-leb 1 (moved utc.minute by).date.year years.0, le-leb (moved utc.minute by).date.year last_year years.1) refl
far_shown offset (Err reason) far = absurd far

-- a body is read where its offset is and its fields are, of a year from 2 to 9998
pub usual_timestamp : (body : List ℕ) (offset : Option ℤ) (used : ℕ) → Ok (offset, used) ≡ read_offset body → IsOkAnd (read_fields (drop used body)) FarFromEnds
    → is_ok (timestamp_of_body body) ≡ true
unfolding timestamp_of_body
usual_timestamp body offset used e far =
    rw (← e) (far_shown offset (read_fields (drop used body)) far)

pairs : (octets : List ℕ) (negative : Bool) (n : ℕ) → ◌≡◌ {A = Result (Bool × ℕ) Reason} (Ok (negative, n)) (Ok (int_negative octets, int_magnitude octets))
    → (int_negative octets ≡ negative) × (int_magnitude octets ≡ n)
pairs octets negative n e =
    let same : ◌≡◌ {A = Bool × ℕ} (negative, n) (int_negative octets, int_magnitude octets) = cc in
    (λ i. (sym same i).0, λ i. (sym same i).1)

-- what an Int is read as
pub int_told : (octets : List ℕ) (negative : Bool) (n : ℕ) → Ok (negative, n) ≡ int_field octets → (int_negative octets ≡ negative) × (int_magnitude octets ≡ n)
int_told octets negative n e =
    elim (cases_lt (int_magnitude octets) (2 ^ 127)) [
      | inl fits ↦ let h = rw (lt-ltb (int_magnitude octets) (2 ^ 127) fits) at e in pairs octets negative n h
      | inr large ↦ absurd (let h = rw (le-ltb (int_magnitude octets) (2 ^ 127) large) at e in cc)
    ]

as_power : (minute : Minute) (second : ℕ) (rest : List ℕ) (answer : Result Utc Reason) (below : Bool) (n power : ℕ) → below ≡ true → n ≡ power
    → read_fraction minute second (signed_of true power) rest ≡ answer → read_fraction minute second (signed_of below n) rest ≡ answer
as_power minute second rest answer below n power b e is = rw (b, e) is

-- an exponent of one octet, and a coefficient of so many digits
pub usual_fraction : (octets : List ℕ) → 193 ≤ get_or octets 0 0 → get_or octets 0 0 ≤ 230 → int_negative (drop 1 octets) ≡ false
    → int_magnitude (drop 1 octets) < 10 ^ (get_or octets 0 0 - 192)
    → (minute : Minute) (second : ℕ) → IsOkAnd (read_behind_second minute second octets) (λ utc. utc.minute ≡ minute)
unfolding read_behind_second
usual_fraction [] some few plus bound minute second = refl
usual_fraction (octet ∷ rest) some few plus bound minute second =
    let power = octet - 192 in
    let seven : seven_bits octet ≡ octet - 128 = rw (le-leb 128 octet (omega arith)) refl in
    let below : is_negative octet ≡ true = rw seven (le-leb 64 (octet - 128) (omega arith)) in
    let six : six_bits octet ≡ power = rw (below, seven) (omega arith) in
    let utc : Utc = time_known (Precision.Fraction power) minute second (int_magnitude rest) in
    let read = ap (with_power minute second (octet ∷ rest)) (var_int_read (octet ∷ []) rest (is_negative octet) (six_bits octet) (short octet (omega arith))) in
    let is = fraction_read minute second rest utc true power (inl (refl, omega arith, omega arith, inl plus, bound, refl)) in
    let whole : with_power minute second (octet ∷ rest) (var_int (octet ∷ rest)) ≡ Ok utc =
    read ∙ as_power minute second rest (Ok utc) (is_negative octet) (six_bits octet) power below six is in
    subst (λ (r : Result Utc Reason). IsOkAnd r (λ u. u.minute ≡ minute)) (sym whole) refl
