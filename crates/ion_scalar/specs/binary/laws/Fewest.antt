-- No spelling of a number is shorter than the one that is written.
use Rattle.std.proofs.Common.{◌≡◌, ℕ, Bool, true, false, suc, [], ◌∷◌, ◌++◌, ◌+◌, ◌*◌, ◌/◌, ◌%◌, ◌^◌, ◌<◌, ◌≤◌, List, length, refl, ap, subst, ◌∙◌, arith, inl, inr, length-append}
use Rattle.std.proofs.lemmas.Bool.{lt-leb, le-leb, lt-ltb, le-ltb, cases_lt}
use Rattle.std.proofs.lemmas.Int.Digits.{length-digits_of-le}
use Rattle.std.proofs.Math.Seq.{get_or-append_seam}
use Rattle.std.proofs.Math.Nat.{pow-suc, pow-zero, pow-le-pow_right, mul_comm, suc-mul, mul-le-mul_left, mul-le-mul_right}
use Rattle.std.specs.Int.Digits.{digits_of}
use Rattle.ion_scalar.specs.Names.{AreBelow, VarInt, VarUInt, int_magnitude, int_negative, int_octets, is_last, is_negative, long, positional, positional_push, seven_bits, short, signed_digits, six_bits, uint_octets, var_int_octets, var_uint_octets}
use Rattle.ion_scalar.specs.binary.laws.Rests.{digits_below}
use Rattle.ion_scalar.specs.binary.laws.Spellings.{positional_digits_of}

one_more : (d p : ℕ) → suc d * p ≡ d * p + p
one_more d p = suc-mul d p

-- a number of so many digits is below that power of the base
pub positional_below : (base : ℕ) (ds : List ℕ) → AreBelow base ds → positional base ds < base ^ length ds
positional_below base [] all = rw (pow-zero base) (omega arith)
positional_below base (d ∷ ds) all =
    let rest = positional_below base ds (λ k h. all (suc k) (omega arith)) in
    let first : suc d ≤ base = all 0 (omega arith) in
    let whole : suc d * base ^ length ds ≤ base * base ^ length ds = mul-le-mul_right (base ^ length ds) first in
    let power : base ^ suc (length ds) ≡ base * base ^ length ds = pow-suc base (length ds) ∙ mul_comm (base ^ length ds) base in
    rw power (omega (arith, one_more d (base ^ length ds)))

fewest_digits : (base : ℕ) (ds : List ℕ) → 2 ≤ base → AreBelow base ds → length (digits_of base (positional base ds)) ≤ length ds
fewest_digits base ds b all = length-digits_of-le base (length ds) (positional base ds) b (positional_below base ds all)

-- a first digit that needs the sign's bit leaves one digit fewer behind it
signed_length : (base bit k n : ℕ) (ds : List ℕ) (negative : Bool) → 2 ≤ base → length ds ≤ suc k → positional base ds ≡ n → n < bit * base ^ k
    → length (signed_digits bit negative ds) ≤ suc k
signed_length base bit k n [] negative b size value bound = omega arith
signed_length base bit k n (d ∷ ds) negative b size value bound =
    elim (cases_lt d bit) [
      | inl free ↦ rw (lt-ltb d bit free) size
      | inr taken ↦ rw (le-ltb d bit taken) (elim (cases_lt (length ds) k) [
        | inl short_enough ↦ omega arith
        | inr full ↦
            let power : base ^ k ≤ base ^ length ds = pow-le-pow_right (omega arith) full in
            let at_least : bit * base ^ k ≤ bit * base ^ length ds = mul-le-mul_left bit power in
            let more : bit * base ^ length ds ≤ d * base ^ length ds = mul-le-mul_right (base ^ length ds) taken in
            absurd (omega arith)
      ])
    ]

signed_fewest : (base bit first : ℕ) (rest : List ℕ) (negative : Bool) → 2 ≤ base → first < bit → bit ≤ base → AreBelow base rest
    → length (signed_digits bit negative (digits_of base (positional base (first ∷ rest)))) ≤ suc (length rest)
signed_fewest base bit first rest negative b free room all =
    let n = positional base (first ∷ rest) in
    let below = positional_below base rest all in
    let some : suc first * base ^ length rest ≤ bit * base ^ length rest = mul-le-mul_right (base ^ length rest) free in
    let bound : n < bit * base ^ length rest = omega (arith, one_more first (base ^ length rest)) in
    let whole : bit * base ^ length rest ≤ base * base ^ length rest = mul-le-mul_right (base ^ length rest) room in
    let power : base ^ suc (length rest) ≡ base * base ^ length rest = pow-suc base (length rest) ∙ mul_comm (base ^ length rest) base in
    let size = length-digits_of-le base (suc (length rest)) n b (rw power (omega arith)) in
    signed_length base bit (length rest) n (digits_of base n) negative b size (positional_digits_of base n b) bound

-- the octet that ends, behind others, holds seven bits
last_below : (front : List ℕ) (last : ℕ) → AreBelow 256 (front ++ (128 + last) ∷ []) → last < 128
last_below front last octets =
    omega (arith, octets (length front) (omega (arith, length-append front ((128 + last) ∷ []))), get_or-append_seam front (128 + last) [] 0)

front_of : (front : List ℕ) (last n : ℕ) → last < 128 → n ≡ positional 128 (front ++ last ∷ []) → n / 128 ≡ positional 128 front
front_of front last n small value = omega (arith, value, positional_push 128 front last)

-- no spelling of a VarUInt is shorter than the one that is written
pub var_uint_fewest : (w : List ℕ) (n : ℕ) → AreBelow 256 w → VarUInt w n → length (var_uint_octets n) ≤ length w
var_uint_fewest w n octets v =
    let small = last_below v.digits v.last (subst (AreBelow 256) v.octets octets) in
    let front = front_of v.digits v.last n small v.value in
    let fewest = fewest_digits 128 v.digits (omega arith) (digits_below v.digits v.small) in
    let size = ap length v.octets ∙ length-append v.digits ((128 + v.last) ∷ []) in
    let written = length-append (digits_of 128 (n / 128)) ((128 + n % 128) ∷ []) in
    omega (arith, ap (λ m. length (digits_of 128 m)) front)

-- without their highest bit, the next of octets that go on is the sign
pub six_below : (octet : ℕ) → seven_bits octet < 128 → six_bits octet < 64
six_below octet h =
    elim (cases_lt (seven_bits octet) 64) [
      | inl low ↦ rw (lt-leb 64 (seven_bits octet) low) low
      | inr high ↦ rw (le-leb 64 (seven_bits octet) high) (omega arith)
    ]

var_int_size : (negative : Bool) (n k : ℕ) → 1 ≤ k → length (signed_digits 64 negative (digits_of 128 (n / 128)) ++ (128 + n % 128) ∷ []) ≤ k
    → length (var_int_octets negative n) ≤ k
var_int_size negative n k one h =
    elim (cases_lt n 64) [
      | inl small ↦ rw (lt-ltb n 64 small) one
      | inr large ↦ rw (le-ltb n 64 large) h
    ]

-- no spelling of a VarInt is shorter than the one that is written
pub var_int_fewest : (w : List ℕ) (negative : Bool) (n : ℕ) → AreBelow 256 w → VarInt w negative n → length (var_int_octets negative n) ≤ length w
var_int_fewest _ _ _ octets (short octet high) =
    let below : octet < 256 = octets 0 (omega arith) in
    let seven : seven_bits octet < 128 = rw (le-leb 128 octet high) (omega arith) in
    rw (lt-ltb (six_bits octet) 64 (six_below octet seven)) (omega arith)
var_int_fewest _ _ _ octets (long octet digits last low s bound) =
    let negative = is_negative octet in
    let n = positional 128 (six_bits octet ∷ digits ++ last ∷ []) in
    let small = last_below (octet ∷ digits) last octets in
    let seven : seven_bits octet < 128 = rw (lt-leb 128 octet low) low in
    let front = front_of (six_bits octet ∷ digits) last n small refl in
    let fewest = signed_fewest 128 64 (six_bits octet) digits negative (omega arith) (six_below octet seven) (omega arith) (digits_below digits s) in
    let size = length-append digits ((128 + last) ∷ []) in
    let written = length-append (signed_digits 64 negative (digits_of 128 (n / 128))) ((128 + n % 128) ∷ []) in
    var_int_size negative n (suc (length (digits ++ (128 + last) ∷ []))) (omega arith)
    (omega (arith, ap (λ m. length (signed_digits 64 negative (digits_of 128 m))) front))

-- no spelling of a UInt is shorter than the one that is written
pub uint_fewest : (w : List ℕ) → AreBelow 256 w → length (uint_octets (positional 256 w)) ≤ length w
uint_fewest w octets = fewest_digits 256 w (omega arith) octets

int_size : (negative : Bool) (n k : ℕ) → length (signed_digits 128 negative (digits_of 256 n)) ≤ k → length (int_octets negative n) ≤ k
int_size true n k h = h
int_size false n k h =
    elim (cases_lt 0 n) [
      | inl some ↦ rw (lt-ltb 0 n some) h
      | inr empty ↦ rw (le-ltb 0 n empty) (omega arith)
    ]

-- no spelling of an Int is shorter than the one that is written
pub int_fewest : (w : List ℕ) → AreBelow 256 w → length (int_octets (int_negative w) (int_magnitude w)) ≤ length w
int_fewest [] octets = omega arith
int_fewest (octet ∷ rest) octets =
    let below : octet < 256 = octets 0 (omega arith) in
    let seven : seven_bits octet < 128 = elim (cases_lt octet 128) [
      | inl low ↦ rw (lt-leb 128 octet low) low
      | inr high ↦ rw (le-leb 128 octet high) (omega arith)
    ] in
    int_size (is_last octet) (positional 256 (seven_bits octet ∷ rest)) (suc (length rest))
    (signed_fewest 256 128 (seven_bits octet) rest (is_last octet) (omega arith) seven (omega arith) (λ k h. octets (suc k) (omega arith)))
