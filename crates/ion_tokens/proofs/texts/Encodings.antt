-- The octets of a character in UTF-8, told apart by their number. The laws of std that say so lead to its code, and what clauses of
-- crates above cite may not lead there.
use Rattle.std.proofs.Common.{◌≡◌, ℕ, ◌+◌, ◌*◌, ◌/◌, ◌<◌, ◌≤◌, ◌⊎◌, inl, inr, [], ◌∷◌, arith}
use Rattle.std.proofs.lemmas.Bool.{cases_lt}
use Rattle.std.proofs.lemmas.Bool.Decides.{nat_tests}
use lib.Utf8.{encode, next}

-- a number is less than another, or the other is at most it
pub order : (m n : ℕ) → (m < n) ⊎ (n ≤ m)
order m n = cases_lt m n

-- a character below 0x80 is one octet
pub one : (c : ℕ) → c < 128 → encode c ≡ c ∷ []
unfolding encode
one c h = grind (arith, nat_tests)

-- a character from 0x80 on, below 0x800, is two octets
pub two : (c : ℕ) → 128 ≤ c → c < 2048 → encode c ≡ (192 + c / 64) ∷ next c ∷ []
unfolding encode
two c l h = grind (arith, nat_tests)

-- a character from 0x800 on, below 0x10000, is three octets
pub three : (c : ℕ) → 2048 ≤ c → c < 65536 → encode c ≡ (224 + c / 4096) ∷ next (c / 64) ∷ next c ∷ []
unfolding encode
three c l h = grind (arith, nat_tests)

-- a character from 0x10000 on is four octets
pub four : (c : ℕ) → 65536 ≤ c → encode c ≡ (240 + c / 262144) ∷ next (c / 4096) ∷ next (c / 64) ∷ next c ∷ []
unfolding encode
four c l = grind (arith, nat_tests)

-- an octet behind the first
abbrev pub IsLater : ℕ → Type 0
IsLater o = (128 ≤ o) × (o < 192)

-- what the octets are, and that they give the character's number
pub data Encoding (c : ℕ) : Type 0 where
  one_octet : c < 128 → encode c ≡ c ∷ [] → Encoding c
  two_octets : (x y : ℕ) → 192 ≤ x → x < 224 → IsLater y → c + 12416 ≡ x * 64 + y → encode c ≡ x ∷ y ∷ [] → Encoding c
  three_octets : (x y z : ℕ) → 224 ≤ x → x < 240 → IsLater y → IsLater z → c + 925824 ≡ x * 4096 + y * 64 + z → encode c ≡ x ∷ y ∷ z ∷ [] → Encoding c
  four_octets : (x y z v : ℕ) → 240 ≤ x → x < 248 → IsLater y → IsLater z → IsLater v → c + 63447168 ≡ x * 262144 + y * 4096 + z * 64 + v
      → encode c ≡ x ∷ y ∷ z ∷ v ∷ [] → Encoding c

later : (n : ℕ) → IsLater (next n)
later n = (omega arith, omega arith)

-- a character is one octet to four, which give its number
pub encoding : (c : ℕ) → (c < 55296) ⊎ ((57344 ≤ c) × (c < 1114112)) → Encoding c
encoding c scalar = by (order c 128) (order c 2048) (order c 65536)
  where
    most : (c < 55296) ⊎ ((57344 ≤ c) × (c < 1114112)) → c < 1114112
    most (inl h) = omega arith
    most (inr h) = h.1

    by : (c < 128) ⊎ (128 ≤ c) → (c < 2048) ⊎ (2048 ≤ c) → (c < 65536) ⊎ (65536 ≤ c) → Encoding c
    by (inl h) _ _ = one_octet h (one c h)
    by (inr l) (inl h) _ = two_octets (192 + c / 64) (next c) (omega arith) (omega arith) (later c) (omega arith) (two c l h)
    by (inr _) (inr l) (inl h) = three_octets (224 + c / 4096) (next (c / 64)) (next c) (omega arith) (omega arith) (later (c / 64)) (later c) (omega arith)
        (three c l h)
    by (inr _) (inr _) (inr l) =
        let n = most scalar in
        four_octets (240 + c / 262144) (next (c / 4096)) (next (c / 64)) (next c) (omega arith) (omega arith) (later (c / 4096)) (later (c / 64)) (later c)
        (omega arith) (four c l)
