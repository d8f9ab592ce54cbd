-- A VarInt is read back, and what is read is one.
use Rattle.std.proofs.Common.{◌≡◌, ℕ, Bool, cond, suc, [], ◌∷◌, ◌++◌, ◌+◌, ◌^◌, ◌<◌, ◌≤◌, List, length, refl, sym, ap, subst, ◌∙◌, arith, Ok, Err, Result, inl, inr, length-append, append_assoc}
use Rattle.std.proofs.lemmas.Bool.Decides.{nat_tests}
use Rattle.std.proofs.lemmas.Bool.{lt-leb, le-leb, cases_lt}
use Rattle.ion_scalar.specs.Names.{BeginsWithInt, GoesOnInt, Incomplete, ReachesInt, ReadsVarInt, Reason, Signed, TooLarge, VarInt, is_negative, long, positional, seven_bits, short, signed_of, six_bits, var_int, var_rest, with_sign}
use Rattle.ion_scalar.specs.binary.laws.Rests.{Ended, ReadsRest, rest_answers, rest_goes_on, rest_reaches, rest_read}

module _ (octet : ℕ) (rest : List ℕ) where
  pick : Bool → Result (Signed × ℕ) Reason
  pick last = cond last (with_sign (is_negative octet) (Ok (six_bits octet, 1))) (with_sign (is_negative octet) (var_rest (six_bits octet) 1 rest))

  ends_here : 128 ≤ octet → var_int (octet ∷ rest) ≡ Ok (signed_of (is_negative octet) (six_bits octet), 1)
  unfolding pick
  ends_here high = ap pick (le-leb 128 octet high)

  goes_on : octet < 128 → var_int (octet ∷ rest) ≡ with_sign (is_negative octet) (var_rest (six_bits octet) 1 rest)
  unfolding pick
  goes_on low = ap pick (lt-leb 128 octet low)

-- octets that begin with a VarInt are read as its sign, magnitude and length
pub var_int_read : (w rest : List ℕ) (negative : Bool) (magnitude : ℕ) → VarInt w negative magnitude
    → var_int (w ++ rest) ≡ Ok (signed_of negative magnitude, length w)
var_int_read _ rest _ _ (short octet high) = ends_here octet rest high
var_int_read _ rest _ _ (long octet digits last low s bound) =
    let size : 1 + length digits + 1 ≡ suc (length (digits ++ (128 + last) ∷ [])) = omega (arith, length-append digits ((128 + last) ∷ [])) in
    let same : (digits ++ (128 + last) ∷ []) ++ rest ≡ digits ++ (128 + last) ∷ rest = append_assoc digits ((128 + last) ∷ []) rest in
    let read = rest_read (six_bits octet) 1 digits last rest s bound in
    let on = goes_on octet ((digits ++ (128 + last) ∷ []) ++ rest) low in
    on ∙ (ap (λ (os : List ℕ). with_sign (is_negative octet) (var_rest (six_bits octet) 1 os)) same
    ∙ (ap (with_sign (is_negative octet)) read ∙ ap (λ (n : ℕ).
    Ok (signed_of (is_negative octet) (positional 128 (six_bits octet ∷ digits ++ last ∷ [])), n)) size))

six_small : (octet : ℕ) → octet < 128 → six_bits octet < 2 ^ 63
six_small octet low =
    let seven : seven_bits octet ≡ octet = rw (lt-leb 128 octet low) refl in
    grind (arith, nat_tests)

module _ (octet : ℕ) (rest : List ℕ) (low : octet < 128) where
  begins : (n count : ℕ) → Ended (six_bits octet) rest n count → BeginsWithInt (octet ∷ rest) (signed_of (is_negative octet) n) (suc count)
  begins n count e = record {
    within = omega (arith, e.within);
    is = rw (e.octets, e.value) (long octet e.digits e.last low e.small (rw (← e.value) e.bound));
  }

  answers : (r : Result (ℕ × ℕ) Reason) → ReadsRest (six_bits octet) 1 rest r → ReadsVarInt (octet ∷ rest) (with_sign (is_negative octet) r)
  answers (Ok read) (count, size, e) = let same : read.1 ≡ suc count = omega arith in rw same (begins read.0 count e)
  answers (Err TooLarge) a = (low, a)
  answers (Err Incomplete) a = (low, a)
  answers (Err _) a = absurd a

-- each answer of the reading says what the octets are
pub var_int_answers : (os : List ℕ) → ReadsVarInt os (var_int os)
var_int_answers [] = tt
var_int_answers (octet ∷ rest) =
    elim (cases_lt octet 128) [
      | inl low ↦ subst (ReadsVarInt (octet ∷ rest)) (sym (goes_on octet rest low))
          (answers octet rest low _ (rest_answers (six_bits octet) 1 rest (six_small octet low)))
      | inr high ↦ subst (ReadsVarInt (octet ∷ rest)) (sym (ends_here octet rest high)) (record { within = omega arith; is = short octet high })
    ]

-- what reaches 2^63 as a VarInt is refused as too large
pub var_int_reaches : (os : List ℕ) → ReachesInt os → var_int os ≡ Err TooLarge
var_int_reaches [] r = absurd r
var_int_reaches (octet ∷ rest) (low, r) = goes_on octet rest low ∙ ap (with_sign (is_negative octet)) (rest_reaches (six_bits octet) 1 rest r)

-- the beginning of a VarInt that no octet ends is incomplete
pub var_int_goes_on : (os : List ℕ) → GoesOnInt os → var_int os ≡ Err Incomplete
var_int_goes_on [] g = refl
var_int_goes_on (octet ∷ rest) (low, g) = goes_on octet rest low ∙ ap (with_sign (is_negative octet)) (rest_goes_on (six_bits octet) 1 rest g)
