-- Numbers of few octets, as they are written at once.
use Rattle.std.proofs.Common.{◌≡◌, ℕ, ◌+◌, ◌*◌, ◌/◌, ◌%◌, ◌<◌, ◌≤◌, List, [], ◌∷◌, ◌++◌, ap, ap₂, sym, ◌∙◌, refl, arith, mod-eq_of_lt, append_assoc}
use Rattle.std.proofs.lemmas.Int.Digits.{digits_of_step}
use Rattle.std.specs.Int.Digits.{digits_of}
use Rattle.ion_binary.specs.Names.{framed, uint_octets, var_uint_octets}

one_more : (b n : ℕ) (front : List ℕ) → 2 ≤ b → 0 < n → digits_of b (n / b) ≡ front → digits_of b n ≡ front ++ (n % b) ∷ []
one_more b n front two some e = digits_of_step b n two some ∙ ap (λ w. w ++ (n % b) ∷ []) e

pub one_digit : (b n : ℕ) → 2 ≤ b → 0 < n → n < b → n / b ≡ 0 → digits_of b n ≡ n ∷ []
one_digit b n two some small none = one_more b n [] two some (ap (digits_of b) none) ∙ ap (λ (d : ℕ). d ∷ []) (mod-eq_of_lt small)

two_digits : (b n : ℕ) → 2 ≤ b → 0 < n → 0 < n / b → n / b < b → n / b / b ≡ 0 → digits_of b n ≡ (n / b) ∷ (n % b) ∷ []
two_digits b n two some more small none = one_more b n _ two some (one_digit b (n / b) two more small none)

-- 1. Lengths and ids: VarUInts of two and of three octets.

pub var_two : (n : ℕ) → 128 ≤ n → n < 16384 → (n / 128 % 128) ∷ (128 + n % 128) ∷ [] ≡ var_uint_octets n
var_two n great small =
    let e : n / 128 % 128 ≡ n / 128 = omega arith in
    rw (e, one_digit 128 (n / 128) (omega arith) (omega arith) (omega arith) (omega arith)) refl

pub var_three : (n : ℕ) → 16384 ≤ n → n < 2097152 → (n / 16384) ∷ (n / 128 % 128) ∷ (128 + n % 128) ∷ [] ≡ var_uint_octets n
var_three n great small =
    let e : n / 16384 ≡ n / 128 / 128 = omega arith in
    rw (e, two_digits 128 (n / 128) (omega arith) (omega arith) (omega arith) (omega arith) (omega arith)) refl

-- 2. Magnitudes of one to four octets behind their descriptor.

framed_by : (code k m : ℕ) (w digits : List ℕ) → w ≡ digits → (16 * code + k) ∷ digits ≡ framed code digits → digits_of 256 m ≡ digits
    → (code * 16 + k) ∷ w ≡ framed code (uint_octets m)
framed_by code k m w digits same is e =
    let front : code * 16 + k ≡ 16 * code + k = omega arith in
    ap₂ (λ (a : ℕ) (v : List ℕ). a ∷ v) front same ∙ (is ∙ ap (λ d. framed code d) (sym e))

pub framed_one : (code m : ℕ) → 0 < m → m < 256 → (code * 16 + 1) ∷ (m % 256) ∷ [] ≡ framed code (uint_octets m)
framed_one code m some small =
    let low : m % 256 ≡ m = omega arith in
    framed_by code 1 m _ _ (ap (λ (a : ℕ). a ∷ []) low) refl (one_digit 256 m (omega arith) some small (omega arith))

pub framed_two : (code m : ℕ) → 256 ≤ m → m < 65536 → (code * 16 + 2) ∷ (m / 256 % 256) ∷ (m % 256) ∷ [] ≡ framed code (uint_octets m)
framed_two code m great small =
    let high : m / 256 % 256 ≡ m / 256 = omega arith in
    framed_by code 2 m _ _ (ap (λ (a : ℕ). a ∷ m % 256 ∷ []) high) refl
    (two_digits 256 m (omega arith) (omega arith) (omega arith) (omega arith) (omega arith))

three_digits : (m : ℕ) → 65536 ≤ m → m < 16777216 → digits_of 256 m ≡ (m / 256 / 256) ∷ (m / 256 % 256) ∷ (m % 256) ∷ []
three_digits m great small =
    one_more 256 m _ (omega arith) (omega arith) (two_digits 256 (m / 256) (omega arith) (omega arith) (omega arith) (omega arith) (omega arith))

pub framed_three : (code m : ℕ) → 65536 ≤ m → m < 16777216
    → (code * 16 + 3) ∷ (m / 65536 % 256) ∷ (m / 256 % 256) ∷ (m % 256) ∷ [] ≡ framed code (uint_octets m)
framed_three code m great small =
    let high : m / 65536 % 256 ≡ m / 256 / 256 = omega arith in
    framed_by code 3 m _ _ (ap (λ (a : ℕ). a ∷ m / 256 % 256 ∷ m % 256 ∷ []) high) refl (three_digits m great small)

pub framed_four : (code m : ℕ) → 16777216 ≤ m → m < 4294967296
    → (code * 16 + 4) ∷ (m / 16777216) ∷ (m / 65536 % 256) ∷ (m / 256 % 256) ∷ (m % 256) ∷ [] ≡ framed code (uint_octets m)
framed_four code m great small =
    let high : m / 16777216 ≡ m / 256 / 256 / 256 = omega arith in
    let next : m / 65536 % 256 ≡ m / 256 / 256 % 256 = omega arith in
    framed_by code 4 m _ _ (ap₂ (λ (a b : ℕ). a ∷ b ∷ m / 256 % 256 ∷ m % 256 ∷ []) high next) refl
    (one_more 256 m _ (omega arith) (omega arith) (three_digits (m / 256) (omega arith) (omega arith)))

-- 3. Octets that are pushed one behind the other.

pub two_pushed : {old w0 w1 w2 : List ℕ} (a b : ℕ) → w0 ≡ old → w1 ≡ w0 ++ a ∷ [] → w2 ≡ w1 ++ b ∷ [] → w2 ≡ old ++ a ∷ b ∷ []
two_pushed a b h e f = rw (f, e, h) (simp append_assoc)

pub three_pushed : {old w0 w1 w2 w3 : List ℕ} (a b c : ℕ) → w0 ≡ old → w1 ≡ w0 ++ a ∷ [] → w2 ≡ w1 ++ b ∷ [] → w3 ≡ w2 ++ c ∷ []
    → w3 ≡ old ++ a ∷ b ∷ c ∷ []
three_pushed a b c h e f g = rw (g, f, e, h) (simp append_assoc)

pub four_pushed : {old w0 w1 w2 w3 w4 : List ℕ} (a b c d : ℕ) → w0 ≡ old → w1 ≡ w0 ++ a ∷ [] → w2 ≡ w1 ++ b ∷ [] → w3 ≡ w2 ++ c ∷ [] → w4 ≡ w3 ++ d ∷ []
    → w4 ≡ old ++ a ∷ b ∷ c ∷ d ∷ []
four_pushed a b c d h e f g i = rw (i, g, f, e, h) (simp append_assoc)

pub five_pushed : {old w0 w1 w2 w3 w4 w5 : List ℕ} (a b c d x : ℕ) → w0 ≡ old → w1 ≡ w0 ++ a ∷ [] → w2 ≡ w1 ++ b ∷ [] → w3 ≡ w2 ++ c ∷ []
    → w4 ≡ w3 ++ d ∷ [] → w5 ≡ w4 ++ x ∷ [] → w5 ≡ old ++ a ∷ b ∷ c ∷ d ∷ x ∷ []
five_pushed a b c d x h e f g i j = rw (j, i, g, f, e, h) (simp append_assoc)
