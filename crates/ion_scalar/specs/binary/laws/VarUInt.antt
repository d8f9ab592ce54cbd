-- A VarUInt is read back, and what is read is one.
use Rattle.std.proofs.Common.{◌≡◌, ℕ, [], ◌∷◌, ◌++◌, ◌+◌, List, length, refl, sym, ap, subst, ◌∙◌, arith, Ok, Err, Result, length-append, append_assoc}
use Rattle.ion_scalar.specs.Names.{BeginsWith, ReadsVarUInt, Reason, TooLarge, VarUInt, positional, var_uint}
use Rattle.ion_scalar.specs.binary.Reads.{Reaches}
use Rattle.ion_scalar.specs.binary.laws.Rests.{Ended, ReadsRest, rest_answers, rest_reaches, rest_read}

-- octets that begin with a VarUInt are read as its value and length
pub var_uint_read : (w rest : List ℕ) (n : ℕ) → VarUInt w n → var_uint (w ++ rest) ≡ Ok (n, length w)
var_uint_read w rest n v =
    let same : w ++ rest ≡ v.digits ++ (128 + v.last) ∷ rest = rw (v.octets, append_assoc) refl in
    let size : length w ≡ 0 + length v.digits + 1 = rw (v.octets, length-append v.digits ((128 + v.last) ∷ [])) (omega arith) in
    let value : n ≡ positional 128 (0 ∷ v.digits ++ v.last ∷ []) = v.value ∙ omega arith in
    let read = rest_read 0 0 v.digits v.last rest v.small (omega (arith, v.bound)) in
    rw (same, size, value) read

module _ (os : List ℕ) where
  begins : (n count : ℕ) → Ended 0 os n count → BeginsWith os n count
  begins n count e = record {
    within = e.within;
    is = record { digits = e.digits; last = e.last; small = e.small; octets = e.octets; value = e.value ∙ omega arith; bound = e.bound };
  }

  answers : (r : Result (ℕ × ℕ) Reason) → ReadsRest 0 0 os r → ReadsVarUInt os r
  answers (Ok read) (count, size, e) = let same : read.1 ≡ count = omega arith in rw same (begins read.0 count e)
  answers (Err reason) a = a

-- each answer of the reading says what the octets are
pub var_uint_answers : (os : List ℕ) → ReadsVarUInt os (var_uint os)
var_uint_answers os = answers os (var_uint os) (rest_answers 0 0 os (omega arith))

-- what reaches 2^63 as a VarUInt is refused as too large
pub var_uint_reaches : (os : List ℕ) → Reaches 0 os → var_uint os ≡ Err TooLarge
var_uint_reaches os r = rest_reaches 0 0 os r

pub var_uint_ok : (os : List ℕ) (n used : ℕ) → var_uint os ≡ Ok (n, used) → BeginsWith os n used
var_uint_ok os n used e = subst (ReadsVarUInt os) e (var_uint_answers os)

-- octets begin with one VarUInt at most
pub one_var_uint : (w v x y : List ℕ) (n m : ℕ) → VarUInt w n → VarUInt v m → w ++ x ≡ v ++ y → (n ≡ m) × (length w ≡ length v)
one_var_uint w v x y n m a b e =
    let first = var_uint_read w x n a in
    let second = var_uint_read v y m b in
    let same = sym first ∙ (ap var_uint e ∙ second) in
    let pair : Path (ℕ × ℕ) (n, length w) (m, length v) = cc in
    (ap (λ (r : ℕ × ℕ). r.0) pair, ap (λ (r : ℕ × ℕ). r.1) pair)
