-- A decimal's body is read as what it is.
use Rattle.std.proofs.Common.{◌≡◌, ◌≢◌, ◌⊎◌, ℕ, ℤ, cond, pos, negsuc, neg_ℤ, ◌≤ℤ◌, ◌<ℤ◌, Bool, true, false, [], ◌∷◌, ◌++◌, ◌^◌, ◌<◌, List, take, drop, refl, sym, ap, ◌∙◌, arith, Ok, Err, Result, inl, inr}
use Rattle.std.specs.Prelude.{unsigned_abs, int_lt, ◌==◌}
use Rattle.std.specs.Ordering.{int_eq}
use Rattle.std.proofs.lemmas.Bool.Decides.{Decides-int_eq}
use Rattle.std.proofs.lemmas.Bool.{eqb-true, false≢true, lt-ltb, le-ltb, le-leb, lt-leb, cases_lt, and_parts}
use Rattle.std.proofs.Math.Seq.{drop-append_seam}
use Rattle.std.proofs.lemmas.List.{take-append-drop}
use Rattle.std.proofs.lemmas.Int.{ints}
use Rattle.ion_scalar.specs.Names.{BeginsWithInt, DecimalParts, Incomplete, IsDecimal, IsDecimalField, IsDecimalParts, Malformed, ReachesInt, ReadsDecimalBody, ReadsVarInt, Reason, Signed, TooLarge, VarInt, decimal_octets, decimal_of_body, decimal_with, exponent_fits, int_magnitude, int_negative, int_octets, is_zero, long, short, signed, signed_of, var_int, var_int_octets, with_coefficient, with_exponent}
use Rattle.ion_scalar.specs.binary.laws.Spellings.{int_parts, var_int_spelled}
use Rattle.ion_scalar.specs.binary.laws.VarInt.{var_int_answers, var_int_goes_on, var_int_reaches, var_int_read}

abbrev InRange : ℤ → Type 0
InRange e = (neg_ℤ (pos (2 ^ 31)) ≤ℤ e) × (e <ℤ pos (2 ^ 31))

fits : (negative : Bool) (n : ℕ) → InRange (signed negative n) → exponent_fits (signed_of negative n) ≡ true
fits true n h = le-leb n (2 ^ 31) (omega (arith, ints))
fits false n h = lt-ltb n (2 ^ 31) (omega (arith, ints))

abbrev Tested : Bool → ℕ → Type 0
Tested negative n =
    ((exponent_fits (signed_of negative n) ≡ true) × InRange (signed negative n))
    ⊎ ((exponent_fits (signed_of negative n) ≡ false) × (InRange (signed negative n) → ⊥))

tested : (negative : Bool) (n : ℕ) → Tested negative n
tested true n =
    elim (cases_lt (2 ^ 31) n) [
      | inl large ↦ inr (lt-leb n (2 ^ 31) large, λ h. absurd (omega (arith, ints)))
      | inr small ↦ inl (le-leb n (2 ^ 31) small, (omega (arith, ints), omega (arith, ints)))
    ]
tested false n =
    elim (cases_lt n (2 ^ 31)) [
      | inl small ↦ inl (lt-ltb n (2 ^ 31) small, (omega (arith, ints), omega (arith, ints)))
      | inr large ↦ inr (le-ltb n (2 ^ 31) large, λ h. absurd (omega (arith, ints)))
    ]

not_empty : (w rest : List ℕ) (s : Bool) (n : ℕ) → VarInt w s n → w ++ rest ≢ []
not_empty _ rest _ _ (short octet high) e = absurd cc
not_empty _ rest _ _ (long octet digits last low s bound) e = absurd cc

begins_so : (body : List ℕ) → body ≢ [] → decimal_of_body body ≡ with_exponent body (var_int body)
unfolding decimal_of_body
begins_so [] h = absurd (h refl)
begins_so (octet ∷ rest) h = refl

nothing : decimal_of_body [] ≡ Ok (decimal_with false 0 (pos 0))
unfolding decimal_of_body
nothing = refl

-- a body with an exponent is judged by it and by the rest
parts_judged : (body : List ℕ) (d : DecimalParts) (is : IsDecimalParts body d)
    → decimal_of_body body ≡ with_coefficient (signed_of is.below is.written) is.coefficient
parts_judged body d is =
    let whole = begins_so (is.power ++ is.coefficient) (not_empty is.power is.coefficient is.below is.written is.is_power) in
    let power = var_int_read is.power is.coefficient is.below is.written is.is_power in
    let judged : with_exponent (is.power ++ is.coefficient) (var_int (is.power ++ is.coefficient))
    ≡ with_coefficient (signed_of is.below is.written) is.coefficient =
    ap (with_exponent (is.power ++ is.coefficient)) power ∙ rw (drop-append_seam is.power is.coefficient) refl in
    ap decimal_of_body is.octets ∙ (whole ∙ judged)

parts_read : (body : List ℕ) (negative : Bool) (m : ℕ) (e : ℤ) → IsDecimalField body (decimal_with negative m e) → IsDecimal (decimal_with negative m e)
    → decimal_of_body body ≡ Ok (decimal_with negative m e)
parts_read body negative m e (inl d) k = rw (d.0, d.1, d.2, d.3) nothing
parts_read body negative m e (inr d) k =
    let at_most : InRange e = (k.1, k.2) in
    let range : InRange (signed d.below d.written) = rw d.exponent at at_most in
    let few : int_magnitude d.coefficient < 2 ^ 127 = rw d.magnitude at k.0 in
    let read : with_coefficient (signed_of d.below d.written) d.coefficient
    ≡ Ok (decimal_with (int_negative d.coefficient) (int_magnitude d.coefficient) (signed d.below d.written)) =
    rw (fits d.below d.written range, lt-ltb (int_magnitude d.coefficient) (2 ^ 127) few) refl in
    rw (d.sign, d.magnitude, d.exponent) (parts_judged body _ d ∙ read)

-- a body that is a decimal which is kept is read as it
pub decimal_body_read : (body : List ℕ) (d : DecimalParts) → IsDecimalField body d → IsDecimal d → decimal_of_body body ≡ Ok d
decimal_body_read body d is k = parts_read body d.negative d.magnitude d.exponent is k

module _ (body : List ℕ) (power : Signed) (used : ℕ) (b : BeginsWithInt body power used) where
  parts : IsDecimalField body (decimal_with (int_negative (drop used body)) (int_magnitude (drop used body)) (signed power.negative power.magnitude))
  parts = inr (record {
    power = take used body;
    coefficient = drop used body;
    below = power.negative;
    written = power.magnitude;
    octets = sym (take-append-drop used body);
    is_power = b.is;
    exponent = refl;
    sign = refl;
    magnitude = refl;
  })

  behind : ReadsDecimalBody body (with_coefficient power (drop used body))
  behind =
      elim (tested power.negative power.magnitude) [
        | inl fit ↦ elim (cases_lt (int_magnitude (drop used body)) (2 ^ 127)) [
          | inl small ↦ rw (fit.0, lt-ltb (int_magnitude (drop used body)) (2 ^ 127) small) (parts, (small, fit.1.0, fit.1.1))
          | inr large ↦ rw (fit.0, le-ltb (int_magnitude (drop used body)) (2 ^ 127) large) (inl (_, parts, λ k. absurd (omega (arith, k.0))))
        ]
        | inr unfit ↦ rw unfit.0 (inl (_, parts, λ k. unfit.1 (k.1, k.2)))
      ]

answers : (body : List ℕ) (r : Result (Signed × ℕ) Reason) → body ≢ [] → ReadsVarInt body r → ReadsDecimalBody body (with_exponent body r)
answers body (Ok read) some a = behind body read.0 read.1 a
answers body (Err TooLarge) some a = inr a
answers body (Err Incomplete) some a = (some, a)
answers body (Err _) some a = absurd a

-- each answer of reading a decimal's body says what the body is
pub decimal_answers : (body : List ℕ) → ReadsDecimalBody body (decimal_of_body body)
unfolding decimal_of_body
decimal_answers [] = (inl (refl, refl, refl, refl), (omega arith, omega (arith, ints), omega (arith, ints)))
decimal_answers (octet ∷ rest) = answers (octet ∷ rest) (var_int (octet ∷ rest)) (λ e. absurd cc) (var_int_answers (octet ∷ rest))

-- and no other answer says so
decimal_large : (body : List ℕ) (d : DecimalParts) → IsDecimalField body d → (IsDecimal d → ⊥) → decimal_of_body body ≡ Err TooLarge
decimal_large body d (inl none) unkept = absurd (unkept (omega (arith, none.2), omega (arith, ints, none.3), omega (arith, ints, none.3)))
decimal_large body d (inr is) unkept =
    parts_judged body d is ∙ elim (tested is.below is.written) [
      | inl fit ↦ elim (cases_lt (int_magnitude is.coefficient) (2 ^ 127)) [
        | inl small ↦ absurd (unkept (rw is.magnitude small, rw is.exponent fit.1.0, rw is.exponent fit.1.1))
        | inr large ↦ rw (fit.0, le-ltb (int_magnitude is.coefficient) (2 ^ 127) large) refl
      ]
      | inr unfit ↦ rw unfit.0 refl
    ]

endless : (body : List ℕ) → ReachesInt body → decimal_of_body body ≡ Err TooLarge
endless [] r = absurd r
endless (octet ∷ rest) r = begins_so (octet ∷ rest) (λ e. absurd cc) ∙ ap (with_exponent (octet ∷ rest)) (var_int_reaches (octet ∷ rest) r)

-- an answer that says what the body is is the one that reading gives
pub decimal_only : (body : List ℕ) (answer : Result DecimalParts Reason) → ReadsDecimalBody body answer → decimal_of_body body ≡ answer
decimal_only body (Ok d) (is, kept) = decimal_body_read body d is kept
decimal_only body (Err TooLarge) (inl (d, is, unkept)) = decimal_large body d is unkept
decimal_only body (Err TooLarge) (inr r) = endless body r
decimal_only body (Err Malformed) (some, open_exponent) = begins_so body some ∙ ap (with_exponent body) (var_int_goes_on body open_exponent)
decimal_only body (Err _) a = absurd a

-- the sign and the magnitude of an exponent
power_is : (e : ℤ) → signed (int_lt e (pos 0)) (unsigned_abs e) ≡ e
power_is (pos k) = rw (le-ltb k 0 (omega arith)) refl
power_is (negsuc k) = refl

power_small : (e : ℤ) → InRange e → unsigned_abs e < 2 ^ 63
power_small (pos k) h = omega (arith, ints)
power_small (negsuc k) h = omega (arith, ints)

spelled : (negative : Bool) (m : ℕ) (e : ℤ) → InRange e → IsDecimalField (var_int_octets (int_lt e (pos 0)) (unsigned_abs e) ++ int_octets negative m)
    (decimal_with negative m e)
spelled negative m e h =
    let int = int_parts negative m in
    inr (record {
      power = var_int_octets (int_lt e (pos 0)) (unsigned_abs e);
      coefficient = int_octets negative m;
      below = int_lt e (pos 0);
      written = unsigned_abs e;
      octets = refl;
      is_power = var_int_spelled (int_lt e (pos 0)) (unsigned_abs e) (power_small e h);
      exponent = sym (power_is e);
      sign = sym int.0;
      magnitude = sym int.1;
    })

zero_is : (negative : Bool) (m : ℕ) (e : ℤ) → is_zero negative m e ≡ true → (negative ≡ false) × (m ≡ 0) × (e ≡ pos 0)
zero_is true m e h = absurd (false≢true h)
zero_is false m e h =
    let parts = and_parts (m == 0) (int_eq e (pos 0)) h in
    (refl, eqb-true m 0 parts.0, (Decides-int_eq e (pos 0)).0 parts.1)

-- one of the two spellings
chosen : (b : Bool) (negative : Bool) (m : ℕ) (e : ℤ) → (b ≡ true → (negative ≡ false) × (m ≡ 0) × (e ≡ pos 0)) → InRange e
    → IsDecimalField (cond b [] (var_int_octets (int_lt e (pos 0)) (unsigned_abs e) ++ int_octets negative m)) (decimal_with negative m e)
chosen true negative m e zero_is h = let z = zero_is refl in inl (refl, z.0, z.1, z.2)
chosen false negative m e zero_is h = spelled negative m e h

-- the octets that are written are the body of that decimal
pub decimal_spelled : (d : DecimalParts) → InRange d.exponent → IsDecimalField (decimal_octets d) d
decimal_spelled d h = chosen (is_zero d.negative d.magnitude d.exponent) d.negative d.magnitude d.exponent (zero_is d.negative d.magnitude d.exponent) h

pub decimal_again : (d : DecimalParts) → IsDecimal d → decimal_of_body (decimal_octets d) ≡ Ok d
decimal_again d k = decimal_body_read (decimal_octets d) d (decimal_spelled d (k.1, k.2)) k
