-- The octets of a number: it begins with a digit, or `-` directly before one, and has no stop character and no `/`. Crates above cite
-- these names.
use Rattle.std.proofs.Common.{◌≡◌, ◌⊎◌, inl, inr, ⊎_elim, ℕ, ℤ, ◌+◌, ◌<◌, ◌≤◌, Bool, true, false, List, [], ◌∷◌, ◌++◌, length, take, drop, get_or, refl, sym, ap, ◌∙◌, subst, arith, Ok}
use Rattle.std.specs.Prelude.{◌==◌, ◌&&◌, ◌||◌, not}
use Rattle.std.specs.Char.{digit_value}
use Rattle.std.specs.List.{list_any}
use Rattle.std.proofs.lemmas.Bool.{false≢true, not-true, or_from, or_parts}
use Rattle.std.proofs.lemmas.Bool.Decides.{nat_tests}
use Rattle.std.proofs.lemmas.List.{take_all, take_more, take-append-drop}
use Rattle.ion_tokens.specs.Names.{Each, IsBehind, IsDigits, IsMagnitude, IsNumber, IsNumeral, IsRadix, IsWholePart, Number, ReadsNumber, begins, begins_number, is_digit, is_stop, minus}
use Rattle.ion_atoms.specs.Timestamps.{TimestampParts}
use Rattle.ion_scalar.specs.text.Decimals.{IsDecimalBody, IsEnd, IsExponent, IsFraction, IsLetter, IsSigned, IsTail}
use Rattle.ion_scalar.specs.text.Timestamps.{AreTwoAt, BeginsWithDay, BeginsWithMinute, BeginsWithMonth, BeginsWithSecond, IsAt, IsDay, IsDigitAt, IsFractionEnd, IsOffsetToken, IsTimestampToken}
use Rattle.ion_scalar.specs.text.Timestamps.IsTimestampToken.{day, fraction, minute, month, second, year}
use Rattle.ion_scalar.specs.text.laws.DecimalCuts.{whole_digits}
use Rattle.ion_scalar.specs.text.laws.OneRun.{first_digit}
use Rattle.ion_tokens.specs.laws.Each.{begins_more, each_append, each_last}

-- what may stand in a numeric token: no stop character, and no `/`
abbrev pub is_numeric_octet : ℕ → Bool
is_numeric_octet o = not (is_stop o || (o == 47))

-- digits of a base of up to 16, with `_`
from_digit : (c : ℕ) → 48 ≤ c → c ≤ 57 → is_numeric_octet c ≡ true
from_digit c h k = grind (arith, nat_tests)

from_letter : (c : ℕ) → ((65 ≤ c) × (c ≤ 90)) ⊎ ((97 ≤ c) × (c ≤ 122)) → is_numeric_octet c ≡ true
from_letter c (inl h) = grind (arith, nat_tests)
from_letter c (inr h) = grind (arith, nat_tests)

from_value : (base c : ℕ) → base ≤ 16 → digit_value c < base → is_numeric_octet c ≡ true
from_value base c b h = ⊎_elim (λ d. from_digit c d.0 d.1) (from_letter c) ranges where
  ranges : ((48 ≤ c) × (c ≤ 57)) ⊎ (((65 ≤ c) × (c ≤ 90)) ⊎ ((97 ≤ c) × (c ≤ 122)))
  ranges = grind (arith, nat_tests)

same_octet : (c d : ℕ) → is_numeric_octet d ≡ true → c ≡ d → is_numeric_octet c ≡ true
same_octet c d h e = ap is_numeric_octet e ∙ h

digits_numeric : (base : ℕ) (os : List ℕ) → base ≤ 16 → IsDigits base os → Each is_numeric_octet os
digits_numeric base [] b h = tt
digits_numeric base (c ∷ []) b h = (from_value base c b h, tt)
digits_numeric base (c ∷ d ∷ os) b (h, inl more) = (from_value base c b h, digits_numeric base (d ∷ os) b more)
digits_numeric base (c ∷ d ∷ os) b (h, inr mark) = (from_value base c b h, (same_octet d 95 refl mark.0, digits_numeric base os b mark.1))

-- magnitudes
whole_numeric : (os : List ℕ) → IsWholePart os → Each is_numeric_octet os
whole_numeric os h = digits_numeric 10 os (omega arith) (whole_digits os h)

radix_numeric : (base lower upper : ℕ) (os : List ℕ) (n : ℕ) → base ≤ 16 → is_numeric_octet lower ≡ true → is_numeric_octet upper ≡ true
    → IsRadix base lower upper os n → Each is_numeric_octet os
radix_numeric base lower upper [] n b l u h = absurd h
radix_numeric base lower upper (c ∷ []) n b l u h = absurd h
radix_numeric base lower upper (c ∷ x ∷ os) n b l u h = (
  same_octet c 48 refl h.0,
  (⊎_elim (same_octet x lower l) (same_octet x upper u) h.1, digits_numeric base os b h.2),
)

magnitude_numeric : (os : List ℕ) (n : ℕ) → IsMagnitude os n → Each is_numeric_octet os
magnitude_numeric os n (inl h) = whole_numeric os h.0
magnitude_numeric os n (inr (inl h)) = radix_numeric 16 120 88 os n (omega arith) refl refl h
magnitude_numeric os n (inr (inr h)) = radix_numeric 2 98 66 os n (omega arith) refl refl h

-- decimals
letter_numeric : (float : Bool) (c : ℕ) → IsLetter float c → is_numeric_octet c ≡ true
letter_numeric false c h = ⊎_elim (same_octet c 100 refl) (same_octet c 68 refl) h
letter_numeric true c h = ⊎_elim (same_octet c 101 refl) (same_octet c 69 refl) h

signed_numeric : (os : List ℕ) (below : Bool) (n : ℕ) → IsSigned os below n → Each is_numeric_octet os
signed_numeric [] below n h = absurd h
signed_numeric (c ∷ os) below n (inl h) = (same_octet c 45 refl h.0, digits_numeric 10 os (omega arith) h.2.0)
signed_numeric (c ∷ os) below n (inr (inl h)) = (same_octet c 43 refl h.0, digits_numeric 10 os (omega arith) h.2.0)
signed_numeric (c ∷ os) below n (inr (inr h)) = digits_numeric 10 (c ∷ os) (omega arith) h.1.0

exponent_numeric : (os : List ℕ) (float below : Bool) (n : ℕ) → IsExponent os float below n → Each is_numeric_octet os
exponent_numeric [] float below n h = absurd h
exponent_numeric (c ∷ os) float below n h = (letter_numeric float c h.0, signed_numeric os below n h.1)

end_numeric : (os : List ℕ) (float below : Bool) (n : ℕ) → IsEnd os float below n → Each is_numeric_octet os
end_numeric os float below n (inl h) = subst (Each is_numeric_octet) (sym h.0) tt
end_numeric os float below n (inr h) = exponent_numeric os float below n h

fraction_numeric : (os digits : List ℕ) (float below : Bool) (n : ℕ) → IsFraction os digits float below n → Each is_numeric_octet os
fraction_numeric os digits float below n h = subst (Each is_numeric_octet) (sym h.cut)
    (each_append is_numeric_octet digits h.rest (some digits h.digits) (end_numeric h.rest float below n h.exponent)) where
      some : (digits : List ℕ) → (digits ≡ []) ⊎ IsDigits 10 digits → Each is_numeric_octet digits
      some digits (inl e) = subst (Each is_numeric_octet) (sym e) tt
      some digits (inr h) = digits_numeric 10 digits (omega arith) h

tail_numeric : (os digits : List ℕ) (float below : Bool) (n : ℕ) → IsTail os digits float below n → Each is_numeric_octet os
tail_numeric [] digits float below n h = absurd h
tail_numeric (c ∷ os) digits float below n (inl h) = (same_octet c 46 refl h.0, fraction_numeric os digits float below n h.1)
tail_numeric (c ∷ os) digits float below n (inr h) = exponent_numeric (c ∷ os) float below n h.1

decimal_numeric : (os : List ℕ) (m : ℕ) (e : ℤ) → IsDecimalBody false os m e → Each is_numeric_octet os
decimal_numeric os m e h = subst (Each is_numeric_octet) (sym h.octets)
    (each_append is_numeric_octet h.whole h.tail (whole_numeric h.whole h.is_whole) (tail_numeric h.tail h.fraction false h.below h.written h.is_tail))

-- what stands behind a sign begins with a digit
value_digit : (c : ℕ) → digit_value c < 10 → is_digit c ≡ true
value_digit c h = grind (arith, nat_tests)

digits_begin : (os : List ℕ) → IsDigits 10 os → begins is_digit os ≡ true
digits_begin [] h = absurd h
digits_begin (c ∷ os) h = value_digit c (first_digit 10 c os h)

radix_begins : (base lower upper : ℕ) (os : List ℕ) (n : ℕ) → IsRadix base lower upper os n → begins is_digit os ≡ true
radix_begins base lower upper [] n h = absurd h
radix_begins base lower upper (c ∷ []) n h = absurd h
radix_begins base lower upper (c ∷ x ∷ os) n h = ap is_digit h.0

magnitude_begins : (os : List ℕ) (n : ℕ) → IsMagnitude os n → begins is_digit os ≡ true
magnitude_begins os n (inl h) = digits_begin os (whole_digits os h.0)
magnitude_begins os n (inr (inl h)) = radix_begins 16 120 88 os n h
magnitude_begins os n (inr (inr h)) = radix_begins 2 98 66 os n h

decimal_begins : (os : List ℕ) (m : ℕ) (e : ℤ) → IsDecimalBody false os m e → begins is_digit os ≡ true
decimal_begins os m e h = ap (begins is_digit) h.octets ∙ begins_more is_digit h.whole h.tail (digits_begin h.whole (whole_digits h.whole h.is_whole))

-- a numeric token, whatever comes behind it
pub record IsNumericRun (token : List ℕ) : Type 0 where
  pub begun : begins_number token ≡ true
  pub each : Each is_numeric_octet token

digit_begins : (os : List ℕ) → begins is_digit os ≡ true → begins_number os ≡ true
digit_begins [] h = absurd (false≢true h)
digit_begins (o ∷ os) h = ap (λ b. b || ((o == 45) && begins is_digit os)) h

behind_sign : (negative : Bool) (body : List ℕ) → begins is_digit body ≡ true → Each is_numeric_octet body → IsNumericRun (minus negative ++ body)
behind_sign true body h k = record { begun = h; each = (refl, k) }
behind_sign false body h k = record { begun = digit_begins body h; each = k }

numeral_run : (token : List ℕ) (x : Number) → IsNumeral token x → IsNumericRun token
numeral_run token x h = subst IsNumericRun (sym h.octets) (by x h.is) where
  by : (x : Number) → IsBehind h.negative h.body x → IsNumericRun (minus h.negative ++ h.body)
  by (Number.Int z) (n, m, e) = behind_sign h.negative h.body (magnitude_begins h.body n m) (magnitude_numeric h.body n m)
  by (Number.Decimal d) (s, b) = behind_sign h.negative h.body (decimal_begins h.body d.magnitude d.exponent b)
      (decimal_numeric h.body d.magnitude d.exponent b)
  by (Number.Timestamp t) b = absurd b

-- timestamps: octets that may stand in a numeric token up to a place, and from there to the next
abbrev front : List ℕ → ℕ → Type 0
front os at = Each is_numeric_octet (take at os)

one_more : (os : List ℕ) (at c : ℕ) → is_numeric_octet c ≡ true → IsAt os at c → front os at → front os (at + 1)
one_more os at c h k f = subst (Each is_numeric_octet) (sym (take_more os at 0 k.0))
    (each_last is_numeric_octet (take at os) (get_or os at 0) f (same_octet (get_or os at 0) c h k.1))

digit_more : (os : List ℕ) (at : ℕ) → IsDigitAt os at → front os at → front os (at + 1)
digit_more os at k f = subst (Each is_numeric_octet) (sym (take_more os at 0 k.0))
    (each_last is_numeric_octet (take at os) (get_or os at 0) f (from_digit (get_or os at 0) k.1 k.2))

two_more : (os : List ℕ) (at : ℕ) → AreTwoAt os at → front os at → front os (at + 1 + 1)
two_more os at k f = digit_more os (at + 1) k.1 (digit_more os at k.0 f)

month_front : (os : List ℕ) → BeginsWithMonth os → front os 7
month_front os h = two_more os 5 h.2 (one_more os 4 45 refl h.1 (two_more os 2 h.0.1 (two_more os 0 h.0.0 tt)))

day_front : (os : List ℕ) → BeginsWithDay os → front os 10
day_front os h = two_more os 8 h.2 (one_more os 7 45 refl h.1 (month_front os h.0))

minute_front : (os : List ℕ) → BeginsWithMinute os → front os 16
minute_front os h = two_more os 14 h.4 (one_more os 13 58 refl h.3 (two_more os 11 h.2 (one_more os 10 84 refl h.1 (day_front os h.0))))

second_front : (os : List ℕ) → BeginsWithSecond os → front os 19
second_front os h = two_more os 17 h.2 (one_more os 16 58 refl h.1 (minute_front os h.0))

front_all : (os : List ℕ) (at : ℕ) → length os ≡ at → front os at → Each is_numeric_octet os
front_all os at e h = subst (Each is_numeric_octet) (take_all at os (omega arith)) h

front_then : (os : List ℕ) (at : ℕ) → front os at → Each is_numeric_octet (drop at os) → Each is_numeric_octet os
front_then os at h k = subst (Each is_numeric_octet) (take-append-drop at os) (each_append is_numeric_octet (take at os) (drop at os) h k)

offset_numeric : (os : List ℕ) → IsOffsetToken os → Each is_numeric_octet os
offset_numeric os (inl h) = front_all os 1 h.0 (one_more os 0 90 refl h.1 tt)
offset_numeric os (inr h) = front_all os 6 h.0 (two_more os 4 h.4 (one_more os 3 58 refl h.3 (two_more os 1 h.2 (sign h.1)))) where
  sign : IsAt os 0 43 ⊎ IsAt os 0 45 → front os 1
  sign (inl k) = one_more os 0 43 refl k tt
  sign (inr k) = one_more os 0 45 refl k tt

fraction_end_numeric : (os digits rest : List ℕ) → IsFractionEnd os digits rest → Each is_numeric_octet os
fraction_end_numeric os digits rest h = subst (Each is_numeric_octet) (sym h.cut)
    (each_append is_numeric_octet digits rest (digits_numeric 10 digits (omega arith) h.plain.0) (offset_numeric rest h.offset))

day_numeric : (os : List ℕ) → IsDay os → Each is_numeric_octet os
day_numeric os (h, inl e) = front_all os 10 e (day_front os h)
day_numeric os (h, inr e) = front_all os 11 e.0 (one_more os 10 84 refl e.1 (day_front os h))

timestamp_numeric : (os : List ℕ) (t : TimestampParts) → IsTimestampToken os t → Each is_numeric_octet os
timestamp_numeric os t (year h) = front_all os 5 h.0 (one_more os 4 84 refl h.2 (two_more os 2 h.1.1 (two_more os 0 h.1.0 tt)))
timestamp_numeric os t (month h) = front_all os 8 h.0 (one_more os 7 84 refl h.2 (month_front os h.1))
timestamp_numeric os t (day h) = day_numeric os h
timestamp_numeric os t (minute h k) = front_then os 16 (minute_front os h) (offset_numeric (drop 16 os) k)
timestamp_numeric os t (second h k) = front_then os 19 (second_front os h) (offset_numeric (drop 19 os) k)
timestamp_numeric os t (fraction h k digits rest e) = front_then os 20 (one_more os 19 46 refl k (second_front os h))
    (fraction_end_numeric (drop 20 os) digits rest e)

place_begins : (os : List ℕ) → IsDigitAt os 0 → begins_number os ≡ true
place_begins [] h = absurd (omega (arith, h.0))
place_begins (o ∷ os) h = digit_begins (o ∷ os) is where
  is : is_digit o ≡ true
  is = let low : 48 ≤ o = h.1 in let high : o ≤ 57 = h.2 in grind (arith, nat_tests)

timestamp_digit : (os : List ℕ) (t : TimestampParts) → IsTimestampToken os t → IsDigitAt os 0
timestamp_digit os t (year h) = h.1.0.0
timestamp_digit os t (month h) = h.1.0.0.0
timestamp_digit os t (day h) = h.0.0.0.0.0
timestamp_digit os t (minute h k) = h.0.0.0.0.0
timestamp_digit os t (second h k) = h.0.0.0.0.0.0
timestamp_digit os t (fraction h k digits rest e) = h.0.0.0.0.0.0

number_run : (token : List ℕ) (x : Number) → IsNumber token x → IsNumericRun token
number_run token (Number.Int z) h = numeral_run token (Number.Int z) h
number_run token (Number.Decimal d) h = numeral_run token (Number.Decimal d) h
number_run token (Number.Timestamp t) h = record { begun = place_begins token (timestamp_digit token t h); each = timestamp_numeric token t h }

-- What reads as a number is a numeric token.
pub numeric_run : (token : List ℕ) (x : Number) → ReadsNumber token (Ok x) → IsNumericRun token
numeric_run token x h = number_run token x h.0

-- What may stand in a number is no `/`.
pub run_without_slash : (os : List ℕ) → Each is_numeric_octet os → list_any (λ o. o == 47) os ≡ false
run_without_slash [] h = refl
run_without_slash (o ∷ os) h = or_from (o == 47) (list_any (λ o. o == 47) os)
    (or_parts (is_stop o) (o == 47) (not-true (is_stop o || (o == 47)) h.0)).1 (run_without_slash os h.1)

-- What reads as a number has no `/`.
pub number_without_slash : (token : List ℕ) (x : Number) → ReadsNumber token (Ok x) → list_any (λ o. o == 47) token ≡ false
number_without_slash token x h = run_without_slash token (numeric_run token x h).each
