-- How many places digits take, and digits written from the last to the first.
use Rattle.std.proofs.Common.{◌≡◌, ℕ, Bool, zero, suc, ◌+◌, ◌-◌, ◌/◌, ◌%◌, ◌^◌, ◌<◌, ◌≤◌, List, [], ◌∷◌, ◌++◌, length, drop, set, nat_lt, if◌then◌else◌, true, false, inl, inr, ap, arith, refl, length-append, append_assoc}
use Rattle.std.proofs.lemmas.Bool.{lt-ltb, le-ltb}
use Rattle.std.proofs.lemmas.Bool.Decides.{leb_tells}
use Rattle.std.proofs.lemmas.Int.Digits.{digits_of_step, length-digits_of-le, length-digits_of_step}
use Rattle.std.proofs.lemmas.List.{drop-set}
use Rattle.std.proofs.lemmas.Nat.{div_below, le-div}
use Rattle.std.proofs.Math.Nat.{mod-eq_of_lt, pow-le-pow_right, pow-suc, pow-zero}
use Rattle.std.specs.Int.Digits.{digits_of}
use Rattle.ion_scalar.specs.Names.{sign_bit, signed_digits}

-- a number that few digits hold is held by more
pub room_for : (base value few many : ℕ) → 0 < base → value < base ^ few → few ≤ many → value < base ^ many
room_for base value few many b small h =
    let more : base ^ few ≤ base ^ many = pow-le-pow_right b h in
    omega arith

-- a number that isn't 0 has a place, and one place fewer without its last digit
pub places : (base rest room : ℕ) → 0 < base → 0 < rest → rest < base ^ room → (0 < room) × (rest / base < base ^ (room - 1))
places base rest zero b some h = absurd (omega (arith, pow-zero base))
places base rest (suc k) b some h =
    let e : suc k - 1 ≡ k = omega arith in
    (omega arith, rw e (div_below rest base (base ^ k) b (rw (pow-suc base k) at h)))

-- an octet in front of a place
pub put_front : (octets : List ℕ) (start x : ℕ) → 0 < start → start ≤ length octets → drop (start - 1) (set octets (start - 1) x) ≡ x ∷ drop start octets
put_front octets start x some within =
    let same : start - 1 + 1 ≡ start = omega arith in
    rw (drop-set octets (start - 1) x (omega arith), same) refl

-- one digit more in front
pub digit_step : (base rest : ℕ) (before text : List ℕ) → 2 ≤ base → 0 < rest → digits_of base rest ++ before ≡ text
    → digits_of base (rest / base) ++ (rest % base) ∷ before ≡ text
digit_step base rest before text b some e = rw (digits_of_step base rest b some, append_assoc) at e

-- a number below a power of the base takes at most so many places in front of what stands
pub few_digits : (base value k : ℕ) (before : List ℕ) → 2 ≤ base → value < base ^ k → length (digits_of base value ++ before) ≤ length before + k
few_digits base value k before b small = omega (arith, length-append (digits_of base value) before, length-digits_of-le base k value b small)

one_digit : (base n : ℕ) → 2 ≤ base → 0 < n → n < base → digits_of base n ≡ n ∷ []
one_digit base n b some small =
    let front : n / base ≡ 0 = omega (arith, div_below n base 1 (omega arith) (omega arith)) in
    let back : n % base ≡ n = mod-eq_of_lt small in
    rw (digits_of_step base n b some, front, back) refl

-- a number that leaves the sign bit free takes the sign
pub signed_one : (base bit rest : ℕ) (negative : Bool) → 2 ≤ base → bit ≤ base → rest < bit
    → signed_digits bit negative (digits_of base rest) ≡ (sign_bit bit negative + rest) ∷ []
signed_one base bit zero negative b less small =
    let alone : sign_bit bit negative ≡ sign_bit bit negative + 0 = omega arith in
    ap (λ (x : ℕ). x ∷ []) alone
signed_one base bit (suc k) negative b less small = rw (one_digit base (suc k) b (omega arith) (omega arith), lt-ltb (suc k) bit small) refl

-- digits with the sign, whether or not the first leaves its bit free
abbrev with_sign : ℕ → Bool → ℕ → List ℕ → Bool → List ℕ
with_sign bit negative d ds free = if free then (sign_bit bit negative + d) ∷ ds else sign_bit bit negative ∷ d ∷ ds

signed_append : (bit x : ℕ) (negative : Bool) (ds : List ℕ) → 0 < length ds
    → signed_digits bit negative (ds ++ x ∷ []) ≡ signed_digits bit negative ds ++ x ∷ []
signed_append bit x negative [] some = absurd (omega arith)
signed_append bit x negative (d ∷ ds) some =
    elim (nat_lt d bit) as (λ v. with_sign bit negative d (ds ++ x ∷ []) v ≡ with_sign bit negative d ds v ++ x ∷ []) [ true ↦ refl | false ↦ refl ]

-- another one has its last digit behind the sign
pub signed_more : (base bit rest : ℕ) (negative : Bool) → 2 ≤ base → 0 < bit → bit ≤ rest
    → signed_digits bit negative (digits_of base rest) ≡ signed_digits bit negative (digits_of base (rest / base)) ++ (rest % base) ∷ []
signed_more base bit rest negative b some enough = elim (leb_tells base rest) [
  | inl many ↦
      let some_left : 0 < rest / base = le-div 1 rest base (omega arith) (omega (arith, many.1)) in
      let next : length (digits_of base (rest / base)) ≡ length (digits_of base (rest / base / base)) + 1 =
      length-digits_of_step base (rest / base) b some_left in
      rw (digits_of_step base rest b (omega arith)) (signed_append bit (rest % base) negative (digits_of base (rest / base)) (omega (arith, next)))
  | inr one ↦
      let front : rest / base ≡ 0 = omega (arith, div_below rest base 1 (omega arith) (omega arith)) in
      let back : rest % base ≡ rest = mod-eq_of_lt one.1 in
      rw (front, back, one_digit base rest b (omega arith) one.1, le-ltb rest bit enough) refl
]

-- a number that doesn't leave the sign bit free puts its last digit in front of what stands
pub signed_step : (base bit rest : ℕ) (negative : Bool) (before text : List ℕ) → 2 ≤ base → 0 < bit → bit ≤ rest
    → signed_digits bit negative (digits_of base rest) ++ before ≡ text
    → signed_digits bit negative (digits_of base (rest / base)) ++ (rest % base) ∷ before ≡ text
signed_step base bit rest negative before text b some enough e = rw (signed_more base bit rest negative b some enough, append_assoc) at e

-- a number that leaves the sign bit free goes into one digit, with the sign
pub signed_last : (base bit rest : ℕ) (negative : Bool) (before text : List ℕ) → 2 ≤ base → bit ≤ base → rest < bit
    → signed_digits bit negative (digits_of base rest) ++ before ≡ text
    → (sign_bit bit negative + rest) ∷ before ≡ text
signed_last base bit rest negative before text b less small e = rw (signed_one base bit rest negative b less small) at e

length-signed : (bit : ℕ) (negative : Bool) (ds : List ℕ) → length (signed_digits bit negative ds) ≤ length ds + 1
length-signed bit negative [] = omega arith
length-signed bit negative (d ∷ ds) =
    elim (nat_lt d bit) as (λ v. length (with_sign bit negative d ds v) ≤ length (d ∷ ds) + 1) [ true ↦ omega arith | false ↦ omega arith ]

-- with its sign, a number below a power of the base takes at most one place more than so many
pub few_signed : (base bit value k : ℕ) (negative : Bool) (before : List ℕ) → 2 ≤ base → value < base ^ k
    → length (signed_digits bit negative (digits_of base value) ++ before) ≤ length before + k + 1
few_signed base bit value k negative before b small =
    omega (
      arith,
      length-append (signed_digits bit negative (digits_of base value)) before,
      length-signed bit negative (digits_of base value),
      length-digits_of-le base k value b small,
    )
