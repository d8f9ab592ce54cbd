-- Decimals of few octets, as they are written at once: the exponent in one, the coefficient in one to three.
use Rattle.std.proofs.Common.{◌≡◌, ℕ, Bool, true, false, ◌+◌, ◌/◌, ◌%◌, ◌<◌, ◌≤◌, [], ◌∷◌, ◌++◌, refl, arith}
use Rattle.std.proofs.lemmas.Bool.{lt-ltb}
use Rattle.std.specs.Int.Digits.{digits_of}
use Rattle.ion_scalar.specs.Names.{int_octets, sign_bit, signed_digits, var_int_octets}
use Rattle.ion_scalar.proofs.Places.{signed_more, signed_one}

one_octet : (below : Bool) (power : ℕ) → power < 64 → var_int_octets below power ≡ (128 + (sign_bit 64 below + power)) ∷ []
one_octet below power small = rw (lt-ltb power 64 small) refl

some_digits : (negative : Bool) (n : ℕ) → 0 < n → int_octets negative n ≡ signed_digits 128 negative (digits_of 256 n)
some_digits true n some = refl
some_digits false n some = rw (lt-ltb 0 n some) refl

signed_two : (negative : Bool) (n : ℕ) → 128 ≤ n → n / 256 < 128
    → signed_digits 128 negative (digits_of 256 n) ≡ (sign_bit 128 negative + n / 256) ∷ (n % 256) ∷ []
signed_two negative n great small =
    rw (
      signed_more 256 128 n negative (omega arith) (omega arith) great,
      signed_one 256 128 (n / 256) negative (omega arith) (omega arith) small,
    ) refl

module _ (below negative : Bool) (power n : ℕ) (p : power < 64) where
  pub few_one : 0 < n → n < 128
      → (128 + (sign_bit 64 below + power)) ∷ (sign_bit 128 negative + n) ∷ [] ≡ var_int_octets below power ++ int_octets negative n
  few_one some small =
      rw (one_octet below power p, some_digits negative n some, signed_one 256 128 n negative (omega arith) (omega arith) small) refl

  pub few_two : 128 ≤ n → n < 32768
      → (128 + (sign_bit 64 below + power)) ∷ (sign_bit 128 negative + n / 256) ∷ (n % 256) ∷ [] ≡ var_int_octets below power ++ int_octets negative n
  few_two great small =
      rw (one_octet below power p, some_digits negative n (omega arith), signed_two negative n great (omega arith)) refl

  pub few_three : 32768 ≤ n → n < 8388608
      → (128 + (sign_bit 64 below + power)) ∷ (sign_bit 128 negative + n / 65536) ∷ (n / 256 % 256) ∷ (n % 256) ∷ []
      ≡ var_int_octets below power ++ int_octets negative n
  few_three great small =
      let first : n / 65536 ≡ n / 256 / 256 = omega arith in
      rw (
        one_octet below power p,
        some_digits negative n (omega arith),
        signed_more 256 128 n negative (omega arith) (omega arith) (omega arith),
        signed_two negative (n / 256) (omega arith) (omega arith),
        first,
      ) refl
