-- What is written is read back, and no spelling is shorter.
use Rattle.std.proofs.Common.{◌≡◌, ℕ, Bool, true, false, cond, zero, suc, [], ◌∷◌, ◌++◌, ◌+◌, ◌-◌, ◌*◌, ◌/◌, ◌%◌, ◌^◌, ◌<◌, ◌≤◌, List, length, get_or, refl, sym, ap, ◌∙◌, arith, Ok, inl, inr}
use Rattle.std.proofs.lemmas.Bool.{lt-leb, le-leb, lt-ltb, le-ltb, cases_lt}
use Rattle.std.proofs.lemmas.Int.Digits.{all_below_base_digits_of, number_digits_of}
use Rattle.std.proofs.lemmas.List.{take_all}
use Rattle.std.specs.Prelude.{nat_le}
use Rattle.std.specs.Int.Digits.{digits_of, number_from_digits_after, AllBelowBase}
use Rattle.ion_scalar.specs.Names.{Digits128, VarInt, VarUInt, int_field, int_magnitude, int_negative, int_octets, is_last, is_negative, long, none, positional, positional-append, positional_one, positional_push, seven_bits, short, sign_bit, signed_digits, signed_of, six_bits, uint_field, uint_octets, var_int, var_int_octets, var_uint, var_uint_octets}
use Rattle.ion_scalar.specs.binary.laws.Rests.{digits_below, digits_take}
use Rattle.ion_scalar.specs.binary.laws.VarInt.{var_int_read}
use Rattle.ion_scalar.specs.binary.laws.VarUInt.{var_uint_read}

positional_two : (base front d : ℕ) → positional base (front ∷ d ∷ []) ≡ front * base + d
positional_two base front d = positional_push base (front ∷ []) d ∙ ap (λ p. p * base + d) (positional_one base front)

number_is : (base front : ℕ) (ds : List ℕ) → number_from_digits_after base front ds ≡ positional base (front ∷ ds)
number_is base front [] = sym (positional_one base front)
number_is base front (d ∷ ds) =
    number_is base (front * base + d) ds
    ∙ (ap (λ p. p * base ^ length ds + positional base ds) (sym (positional_two base front d))
    ∙ sym (positional-append base (front ∷ d ∷ []) ds))

-- the digits of a number make that number
pub positional_digits_of : (base n : ℕ) → 2 ≤ base → positional base (digits_of base n) ≡ n
positional_digits_of base n b =
    let e = number_is base 0 (digits_of base n) in
    let same = number_digits_of base n b in
    omega (arith, e, same)

below : (base : ℕ) (ds : List ℕ) → AllBelowBase base ds → (k : ℕ) → k < length ds → get_or ds k 0 < base
below base [] all k h = absurd (omega arith)
below base (d ∷ ds) all zero h = all.0
below base (d ∷ ds) all (suc k) h = below base ds all.1 k (omega arith)

digits_are : (n : ℕ) → Digits128 (digits_of 128 n)
digits_are n =
    let ds = digits_of 128 n in
    rw (take_all (length ds) ds (omega arith)) at (digits_take ds (length ds) (omega arith) (below 128 ds (all_below_base_digits_of 128 n (omega arith))))

last_digit : (n : ℕ) → positional 128 (digits_of 128 (n / 128) ++ n % 128 ∷ []) ≡ n
last_digit n =
    positional_push 128 (digits_of 128 (n / 128)) (n % 128) ∙ rw (positional_digits_of 128 (n / 128) (omega arith)) (omega arith)

-- the octets that are written are a VarUInt of that number
pub var_uint_spelled : (n : ℕ) → n < 2 ^ 63 → VarUInt (var_uint_octets n) n
var_uint_spelled n bound = record {
  digits = digits_of 128 (n / 128);
  last = n % 128;
  small = digits_are (n / 128);
  octets = refl;
  value = sym (last_digit n);
  bound = bound;
}

pub var_uint_again : (n : ℕ) (rest : List ℕ) → n < 2 ^ 63 → var_uint (var_uint_octets n ++ rest) ≡ Ok (n, length (var_uint_octets n))
var_uint_again n rest bound = var_uint_read (var_uint_octets n) rest n (var_uint_spelled n bound)

pub uint_again : (n : ℕ) → n < 2 ^ 127 → uint_field (uint_octets n) ≡ Ok n
uint_again n bound =
    rw (positional_digits_of 256 n (omega arith), lt-ltb n (2 ^ 127) bound) refl

-- the first octet of an Int with the sign in its highest bit
int_first : (negative : Bool) (d : ℕ) → d < 128 → (is_last (sign_bit 128 negative + d) ≡ negative) × (seven_bits (sign_bit 128 negative + d) ≡ d)
int_first true d h =
    let high = le-leb 128 (128 + d) (omega arith) in
    (high, rw high (omega arith))
int_first false d h =
    let low = lt-leb 128 (0 + d) (omega arith) in
    (low, rw low (omega arith))

int_signed : (negative : Bool) (ds : List ℕ) → (int_negative (signed_digits 128 negative ds) ≡ negative)
    × (int_magnitude (signed_digits 128 negative ds) ≡ positional 256 ds)
int_signed true [] = (refl, refl)
int_signed false [] = (refl, refl)
int_signed negative (d ∷ ds) =
    elim (cases_lt d 128) [
      | inl free ↦
          let f = int_first negative d free in
          rw (lt-ltb d 128 free) (f.0, ap (λ (n : ℕ). positional 256 (n ∷ ds)) f.1)
      | inr taken ↦
          let f = int_first negative 0 (omega arith) in
          let zero_bits : sign_bit 128 negative + 0 ≡ sign_bit 128 negative = omega arith in
          let f' = rw zero_bits at f in
          rw (le-ltb d 128 taken) (f'.0, ap (λ (n : ℕ). positional 256 (n ∷ d ∷ ds)) f'.1 ∙ omega arith)
    ]

int_reads : (os : List ℕ) (negative : Bool) (n : ℕ) → n < 2 ^ 127 → (int_negative os ≡ negative) × (int_magnitude os ≡ n) → int_field os ≡ Ok (negative, n)
int_reads os negative n bound e = rw (e.0, e.1, lt-ltb n (2 ^ 127) bound) refl

-- the octets that are written as an Int have that sign and magnitude
pub int_parts : (negative : Bool) (n : ℕ) → (int_negative (int_octets negative n) ≡ negative) × (int_magnitude (int_octets negative n) ≡ n)
int_parts true n =
    let s = int_signed true (digits_of 256 n) in
    (s.0, s.1 ∙ positional_digits_of 256 n (omega arith))
int_parts false n =
    elim (cases_lt 0 n) [
      | inl some ↦
          let s = int_signed false (digits_of 256 n) in
          rw (lt-ltb 0 n some) (s.0, s.1 ∙ positional_digits_of 256 n (omega arith))
      | inr empty ↦
          let e : n ≡ 0 = omega arith in
          rw e (refl, refl)
    ]

pub int_again : (negative : Bool) (n : ℕ) → n < 2 ^ 127 → int_field (int_octets negative n) ≡ Ok (negative, n)
int_again negative n bound = int_reads (int_octets negative n) negative n bound (int_parts negative n)

-- the first octet of a VarInt with the sign below its highest bit
var_first : (negative : Bool) (d : ℕ) → d < 64 → (is_negative (sign_bit 64 negative + d) ≡ negative) × (six_bits (sign_bit 64 negative + d) ≡ d)
var_first true d h =
    let low = lt-leb 128 (64 + d) (omega arith) in
    let high = le-leb 64 (64 + d) (omega arith) in
    (rw low high, rw (low, high) (omega arith))
var_first false d h =
    let low = lt-leb 128 (0 + d) (omega arith) in
    let low' = lt-leb 64 (0 + d) (omega arith) in
    (rw low low', rw (low, low') (omega arith))

long_as : (octet : ℕ) (digits : List ℕ) (last : ℕ) (negative : Bool) (n : ℕ) → octet < 128 → Digits128 digits → is_negative octet ≡ negative
    → n ≡ positional 128 (six_bits octet ∷ digits ++ last ∷ []) → n < 2 ^ 63 → VarInt (octet ∷ digits ++ (128 + last) ∷ []) negative n
long_as octet digits last negative n low s sign value bound =
    rw (← sign, value) (long octet digits last low s (rw value at bound))

digits_tail : (d : ℕ) (ds : List ℕ) → Digits128 (d ∷ ds) → Digits128 ds
digits_tail d ds s =
    let below = digits_below (d ∷ ds) s in
    rw (take_all (length ds) ds (omega arith)) at (digits_take ds (length ds) (omega arith) (λ k h. below (suc k) (omega arith)))

sign_small : (negative : Bool) → sign_bit 64 negative ≤ 64
sign_small true = omega arith
sign_small false = omega arith

var_int_signed : (negative : Bool) (ds : List ℕ) (last n : ℕ) → Digits128 ds → n ≡ positional 128 (ds ++ last ∷ []) → n < 2 ^ 63
    → VarInt (signed_digits 64 negative ds ++ (128 + last) ∷ []) negative n
var_int_signed true [] last n s value bound = long_as 64 [] last true n (omega arith) none refl (value ∙ omega arith) bound
var_int_signed false [] last n s value bound = long_as 0 [] last false n (omega arith) none refl (value ∙ omega arith) bound
var_int_signed negative (d ∷ ds) last n s value bound =
    elim (cases_lt d 64) [
      | inl free ↦
          let f = var_first negative d free in
          rw (lt-ltb d 64 free) (long_as (sign_bit 64 negative + d) ds last negative n (omega (arith, sign_small negative)) (digits_tail d ds s) f.0
          (rw f.1 value) bound)
      | inr taken ↦
          let f = var_first negative 0 (omega arith) in
          let zero_bits : sign_bit 64 negative + 0 ≡ sign_bit 64 negative = omega arith in
          let f' = rw zero_bits at f in
          rw (le-ltb d 64 taken) (long_as (sign_bit 64 negative) (d ∷ ds) last negative n (omega (arith, sign_small negative)) s f'.0
          (rw f'.1 (value ∙ omega arith)) bound)
    ]

short_as : (octet : ℕ) (negative : Bool) (n : ℕ) → 128 ≤ octet → (is_negative octet ≡ negative) × (six_bits octet ≡ n) → VarInt (octet ∷ []) negative n
short_as octet negative n high f = rw (← f.0, ← f.1) (short octet high)

-- the only octet of a VarInt, by what it is without its highest bit
only : (negative : Bool) (d : ℕ) → (is_negative (sign_bit 64 negative + d) ≡ negative) × (six_bits (sign_bit 64 negative + d) ≡ d)
    → sign_bit 64 negative + d < 128 → VarInt ((128 + (sign_bit 64 negative + d)) ∷ []) negative d
only negative d f low =
    let b = sign_bit 64 negative + d in
    let high = le-leb 128 (128 + b) (omega arith) in
    let seven : seven_bits (128 + b) ≡ seven_bits b = rw (high, lt-leb 128 b low) (omega arith) in
    short_as (128 + b) negative d (omega arith) (ap (λ (x : ℕ). nat_le 64 x) seven ∙ f.0, ap six_of seven ∙ f.1)
  where
    six_of : ℕ → ℕ
    six_of x = cond (nat_le 64 x) (x - 64) x

-- the octets that are written are a VarInt of that sign and magnitude
pub var_int_spelled : (negative : Bool) (n : ℕ) → n < 2 ^ 63 → VarInt (var_int_octets negative n) negative n
var_int_spelled negative n bound =
    elim (cases_lt n 64) [
      | inl small ↦ rw (lt-ltb n 64 small) (only negative n (var_first negative n small) (omega (arith, sign_small negative)))
      | inr large ↦ rw (le-ltb n 64 large) (var_int_signed negative (digits_of 128 (n / 128)) (n % 128) n (digits_are (n / 128)) (sym (last_digit n)) bound)
    ]

pub var_int_again : (negative : Bool) (n : ℕ) (rest : List ℕ) → n < 2 ^ 63 → var_int (var_int_octets negative n ++ rest)
    ≡ Ok (signed_of negative n, length (var_int_octets negative n))
var_int_again negative n rest bound = var_int_read (var_int_octets negative n) rest negative n (var_int_spelled negative n bound)
