-- A token spells one number, or is a float, and not both.
use Rattle.std.proofs.Common.{◌≡◌, ◌≢◌, ℕ, ◌<◌, ◌≤◌, ◌⊎◌, inl, inr, List, [], ◌∷◌, ◌++◌, length, Bool, true, false, ℤ, pos, ◌-ℤ◌, refl, sym, ap, subst, ◌∙◌, arith, Result, Ok, Err}
use Rattle.std.proofs.lemmas.Bool.{false≢true, true≢false}
use Rattle.std.proofs.lemmas.List.{append-nil, append_cancel_left}
use Rattle.std.specs.Char.{digit_value}
use Rattle.std.proofs.lemmas.Str.{digit_value_digit}
use Rattle.ion_scalar.specs.Names.{AreFourAt, BeginsWithMinus, BeginsWithNone, DecimalParts, Fits, Float, GoesNotOn, HasBase, IsAt, IsBehind, IsDecimalBody, IsDigits, IsEnd, IsExponent, IsFloat, IsFloatBody, IsFraction, IsLetter, IsMagnitude, IsNumber, IsNumeral, IsPlain, IsShort, IsSigned, IsTail, IsThere, IsTimestamp, IsTimestampToken, IsWholePart, Malformed, Number, ReadsNumber, ReadsNumeral, ReadsTimestamp, Reason, TimestampParts, TooLarge, digits_in, minus, number, signed}
use Rattle.ion_scalar.specs.text.laws.DecimalCuts.{tail_stops, whole_digits}
use Rattle.ion_scalar.specs.text.laws.DecimalTails.{begins_front, end_stops, letter, none_first}
use Rattle.ion_scalar.specs.text.laws.OneRun.{first_digit, one_run}
use Rattle.ion_scalar.specs.text.laws.Signs.{one_magnitude}
use Rattle.ion_scalar.specs.text.laws.TimestampForms.{one_timestamp, stamp_front, there_short}
use Rattle.ion_scalar.specs.text.laws.Unsigned.{based_decimal, behind_first, float_behind, number_behind, radix_base}

plain_first : (c : ℕ) (os : List ℕ) → IsPlain (c ∷ os) → (c ≡ 45) ⊎ (c ≡ 43) → ⊥
plain_first c os h (inl e) = let P : ℕ → Type 0 = λ y. digit_value y < 10 in absurd (omega (arith, subst P e (first_digit 10 c os h.0)))
plain_first c os h (inr e) = let P : ℕ → Type 0 = λ y. digit_value y < 10 in absurd (omega (arith, subst P e (first_digit 10 c os h.0)))

one_signed : (os : List ℕ) (s t : Bool) (m n : ℕ) → IsSigned os s m → IsSigned os t n → (s ≡ t) × (m ≡ n)
one_signed [] s t m n a b = absurd a
one_signed (c ∷ os) s t m n (inl a) (inl b) = (a.1 ∙ sym (b.1), a.3 ∙ sym (b.3))
one_signed (c ∷ os) s t m n (inl a) (inr (inl b)) = absurd (omega (arith, a.0, b.0))
one_signed (c ∷ os) s t m n (inl a) (inr (inr b)) = absurd (plain_first c os (b.1) (inl (a.0)))
one_signed (c ∷ os) s t m n (inr (inl a)) (inl b) = absurd (omega (arith, a.0, b.0))
one_signed (c ∷ os) s t m n (inr (inl a)) (inr (inl b)) = (a.1 ∙ sym (b.1), a.3 ∙ sym (b.3))
one_signed (c ∷ os) s t m n (inr (inl a)) (inr (inr b)) = absurd (plain_first c os (b.1) (inr (a.0)))
one_signed (c ∷ os) s t m n (inr (inr a)) (inl b) = absurd (plain_first c os (a.1) (inl (b.0)))
one_signed (c ∷ os) s t m n (inr (inr a)) (inr (inl b)) = absurd (plain_first c os (a.1) (inr (b.0)))
one_signed (c ∷ os) s t m n (inr (inr a)) (inr (inr b)) = (a.0 ∙ sym (b.0), a.2 ∙ sym (b.2))

one_letter : (f g : Bool) (c : ℕ) → IsLetter f c → IsLetter g c → f ≡ g
one_letter false true c a b = absurd (grind arith)
one_letter true false c a b = absurd (grind arith)
one_letter _ _ c a b = refl

-- float, minus and magnitude of an exponent
abbrev Agree : (f g s t : Bool) (m n : ℕ) → Type 0
Agree f g s t m n = (f ≡ g) × (s ≡ t) × (m ≡ n)

one_exponent : (os : List ℕ) (f g s t : Bool) (m n : ℕ) → IsExponent os f s m → IsExponent os g t n → Agree f g s t m n
one_exponent [] f g s t m n a b = absurd a
one_exponent (c ∷ os) f g s t m n a b = let e = one_signed os s t m n (a.1) (b.1) in (one_letter f g c (a.0) (b.0), e.0, e.1)

nothing : (rest : List ℕ) (f s : Bool) (n : ℕ) → rest ≡ [] → IsExponent rest f s n → ⊥
nothing [] f s n e h = h
nothing (c ∷ os) f s n e h = cc

one_end : (os : List ℕ) (f g s t : Bool) (m n : ℕ) → IsEnd os f s m → IsEnd os g t n → Agree f g s t m n
one_end os f g s t m n (inl a) (inl b) = (a.1 ∙ sym (b.1), a.2 ∙ sym (b.2), a.3 ∙ sym (b.3))
one_end os f g s t m n (inl a) (inr b) = absurd (nothing os g t n (a.0) b)
one_end os f g s t m n (inr a) (inl b) = absurd (nothing os f s m (b.0) a)
one_end os f g s t m n (inr a) (inr b) = one_exponent os f g s t m n a b

-- digits in front of an end are cut in one way
end_cut : (x y r q : List ℕ) (f g s t : Bool) (m n : ℕ) → (x ≡ []) ⊎ IsDigits 10 x → (y ≡ []) ⊎ IsDigits 10 y → IsEnd r f s m → IsEnd q g t n → x ++ r ≡ y ++ q
    → x ≡ y
end_cut x y r q f g s t m n (inl a) (inl b) c d e = a ∙ sym b
end_cut x y r q f g s t m n (inl a) (inr b) c d e =
    let same : r ≡ y ++ q = cc in
    let P : List ℕ → Type 0 = BeginsWithNone 10 in
    absurd (begins_front 10 y q b (subst P same (none_first 10 r (end_stops r f s m c))))
end_cut x y r q f g s t m n (inr a) (inl b) c d e =
    let same : q ≡ x ++ r = cc in
    let P : List ℕ → Type 0 = BeginsWithNone 10 in
    absurd (begins_front 10 x r a (subst P same (none_first 10 q (end_stops q g t n d))))
end_cut x y r q f g s t m n (inr a) (inr b) c d e = one_run 10 x y r q (omega arith) a b (end_stops r f s m c) (end_stops q g t n d) e

same_rest : (x y r q : List ℕ) → x ≡ y → x ++ r ≡ y ++ q → r ≡ q
same_rest x y r q e cut = append_cancel_left y r q (sym (ap (λ (z : List ℕ). z ++ r) e) ∙ cut)

one_fraction : (os x y : List ℕ) (f g s t : Bool) (m n : ℕ) → IsFraction os x f s m → IsFraction os y g t n → (x ≡ y) × Agree f g s t m n
one_fraction os x y f g s t m n a b =
    let cut : x ++ a.rest ≡ y ++ b.rest = sym a.cut ∙ b.cut in
    let same = end_cut x y a.rest b.rest f g s t m n a.digits b.digits a.exponent b.exponent cut in
    let rest = same_rest x y a.rest b.rest same cut in
    let P : List ℕ → Type 0 = λ z. IsEnd z f s m in
    (same, one_end b.rest f g s t m n (subst P rest a.exponent) b.exponent)

one_tail : (os x y : List ℕ) (f g s t : Bool) (m n : ℕ) → IsTail os x f s m → IsTail os y g t n → (x ≡ y) × Agree f g s t m n
one_tail [] x y f g s t m n a b = absurd a
one_tail (c ∷ os) x y f g s t m n (inl a) (inl b) = one_fraction os x y f g s t m n (a.1) (b.1)
one_tail (c ∷ os) x y f g s t m n (inl a) (inr b) = absurd ((letter g c (b.1.0)).2 (a.0))
one_tail (c ∷ os) x y f g s t m n (inr a) (inl b) = absurd ((letter f c (a.1.0)).2 (b.0))
one_tail (c ∷ os) x y f g s t m n (inr a) (inr b) = (a.0 ∙ sym (b.0), one_exponent (c ∷ os) f g s t m n (a.1) (b.1))

pub one_decimal : (body : List ℕ) (f g : Bool) (m n : ℕ) (d e : ℤ) → IsDecimalBody f body m d → IsDecimalBody g body n e → (f ≡ g) × (m ≡ n) × (d ≡ e)
one_decimal body f g m n d e a b =
    let cut : a.whole ++ a.tail ≡ b.whole ++ b.tail = sym a.octets ∙ b.octets in
    let stop = tail_stops a.tail a.fraction f a.below a.written a.is_tail in
    let ends = tail_stops b.tail b.fraction g b.below b.written b.is_tail in
    let whole = one_run 10 a.whole b.whole a.tail b.tail (omega arith) (whole_digits a.whole a.is_whole) (whole_digits b.whole b.is_whole) stop ends cut in
    let tail = same_rest a.whole b.whole a.tail b.tail whole cut in
    let P : List ℕ → Type 0 = λ z. IsTail z a.fraction f a.below a.written in
    let one = one_tail b.tail a.fraction b.fraction f g a.below b.below a.written b.written (subst P tail a.is_tail) b.is_tail in (
      one.1.0,
      a.digits ∙ (ap (λ (z : List ℕ). number 10 (z ++ a.fraction)) whole ∙ (ap (λ (z : List ℕ). number 10 (b.whole ++ z)) (one.0) ∙ sym b.digits)),
      a.power ∙ (ap (λ (z : Bool). signed z a.written -ℤ pos (length (digits_in a.fraction))) (one.1.1)
          ∙ (ap (λ (z : ℕ). signed b.below z -ℤ pos (length (digits_in a.fraction))) (one.1.2)
          ∙ (ap (λ (z : List ℕ). signed b.below b.written -ℤ pos (length (digits_in z))) (one.0) ∙ sym b.power))),
    )

-- an int is no decimal
int_or_decimal : (body : List ℕ) (n m : ℕ) (f : Bool) (e : ℤ) → IsMagnitude body n → IsDecimalBody f body m e → ⊥
int_or_decimal body n m f e (inl w) d =
    let cut : d.whole ++ d.tail ≡ body ++ [] = sym d.octets ∙ sym (append-nil body) in
    let stop = tail_stops d.tail d.fraction f d.below d.written d.is_tail in
    let whole = one_run 10 d.whole body d.tail [] (omega arith) (whole_digits d.whole d.is_whole) (whole_digits body (w.0)) stop tt cut in
    let P : List ℕ → Type 0 = λ z. IsTail z d.fraction f d.below d.written in
    subst P (same_rest d.whole body d.tail [] whole cut) d.is_tail
int_or_decimal body n m f e (inr r) d = let b = radix_base body n r in based_decimal f b.0 body m e b.1 d

same_parts : (d e : DecimalParts) → d.negative ≡ e.negative → d.magnitude ≡ e.magnitude → d.exponent ≡ e.exponent → d ≡ e
same_parts d e a b c = λ i. record { negative = a i; magnitude = b i; exponent = c i }

one_behind : (s : Bool) (body : List ℕ) (x y : Number) → IsBehind s body x → IsBehind s body y → x ≡ y
one_behind s body (Number.Int x) (Number.Int y) a b = ap Number.Int (a.2 ∙ (ap (signed s) (one_magnitude body a.0 b.0 a.1 b.1) ∙ sym b.2))
one_behind s body (Number.Timestamp t) y a b = absurd a
one_behind s body (Number.Int x) (Number.Decimal d) a b = absurd (int_or_decimal body a.0 d.magnitude false d.exponent a.1 b.1)
one_behind s body (Number.Decimal d) (Number.Int y) a b = absurd (int_or_decimal body b.0 d.magnitude false d.exponent b.1 a.1)
one_behind s body (Number.Decimal d) (Number.Decimal e) a b =
    let one = one_decimal body false false d.magnitude e.magnitude d.exponent e.exponent a.1 b.1 in
    ap Number.Decimal (same_parts d e (a.0 ∙ sym b.0) (one.1) (one.2))
one_behind s body _ (Number.Timestamp t) a b = absurd b

float_or_number : (s : Bool) (body : List ℕ) (x : Number) → IsFloatBody body → IsBehind s body x → ⊥
float_or_number s body (Number.Int z) f is = int_or_decimal body is.0 f.magnitude true f.exponent is.1 f.is
float_or_number s body (Number.Timestamp t) f is = is
float_or_number s body (Number.Decimal d) f is = true≢false (one_decimal body true false f.magnitude d.magnitude f.exponent d.exponent f.is is.1).0

begins_so : (s : Bool) (body : List ℕ) → ((c : ℕ) (os : List ℕ) → body ≡ c ∷ os → c ≢ 45) → BeginsWithMinus s (minus s ++ body)
begins_so true body first = (λ _. refl, λ _. refl)
begins_so false [] first = refl
begins_so false (c ∷ os) first = (λ f. absurd (false≢true f), λ is. absurd (first c os refl is))

-- the sign of a number's token
sign_of : (token : List ℕ) (x : Number) (i : IsNumeral token x) → BeginsWithMinus i.negative token
sign_of token x i =
    let first : (c : ℕ) (os : List ℕ) → i.body ≡ c ∷ os → c ≢ 45 = λ c os same. let P : List ℕ → Type 0 = λ z. IsBehind i.negative z x in
    behind_first i.negative c os x (subst P same i.is) in
    let P : List ℕ → Type 0 = BeginsWithMinus i.negative in
    subst P (sym i.octets) (begins_so i.negative i.body first)

one_numeral : (token : List ℕ) (x y : Number) → IsNumeral token x → IsNumeral token y → x ≡ y
one_numeral token x y i j = one_behind i.negative i.body x y i.is (number_behind i.negative token i.body y (sign_of token x i) i.octets j)

numeral_no_float : (token : List ℕ) (x : Number) → IsNumeral token x → IsFloat token → ⊥
numeral_no_float token x i f = float_or_number i.negative i.body x (float_behind i.negative token i.body (sign_of token x i) i.octets f) i.is

-- what begins with four digits and then `-` or `T` is no int, decimal or float
digit : (c : ℕ) → 48 ≤ c → c ≤ 57 → digit_value c < 10
digit c low high = omega (arith, digit_value_digit c (low, high))

front_stops : (e : ℕ) (rest : List ℕ) → (e ≡ 45) ⊎ (e ≡ 84) → GoesNotOn 10 (e ∷ rest)
front_stops e [] (inl h) = let P : ℕ → Type 0 = λ x. 10 ≤ digit_value x in subst P (sym h) (omega arith)
front_stops e [] (inr h) = let P : ℕ → Type 0 = λ x. 10 ≤ digit_value x in subst P (sym h) (omega arith)
front_stops e (f ∷ rest) (inl h) = (let P : ℕ → Type 0 = λ x. 10 ≤ digit_value x in subst P (sym h) (omega arith), λ m. absurd (omega arith))
front_stops e (f ∷ rest) (inr h) = (let P : ℕ → Type 0 = λ x. 10 ≤ digit_value x in subst P (sym h) (omega arith), λ m. absurd (omega arith))

front_no_tail : (e : ℕ) (rest f : List ℕ) (float s : Bool) (n : ℕ) → (e ≡ 45) ⊎ (e ≡ 84) → IsTail (e ∷ rest) f float s n → ⊥
front_no_tail e rest f float s n is (inl p) = grind (arith, p.0)
front_no_tail e rest f false s n is (inr p) = grind (arith, p.1.0)
front_no_tail e rest f true s n is (inr p) = grind (arith, p.1.0)

module _ (a b c d e : ℕ) (rest : List ℕ) (da : digit_value a < 10) (db : digit_value b < 10) (dc : digit_value c < 10) (dd : digit_value d < 10)
    (stop : (e ≡ 45) ⊎ (e ≡ 84)) where
  four : IsDigits 10 (a ∷ b ∷ c ∷ d ∷ [])
  four = (da, inl (db, inl (dc, inl dd)))

  front_whole : (w t : List ℕ) → a ∷ b ∷ c ∷ d ∷ e ∷ rest ≡ w ++ t → IsWholePart w → GoesNotOn 10 t → w ≡ a ∷ b ∷ c ∷ d ∷ []
  front_whole w t cut h n = one_run 10 w (a ∷ b ∷ c ∷ d ∷ []) t (e ∷ rest) (omega arith) (whole_digits w h) four n (front_stops e rest stop) (sym cut)

  front_decimal : (float : Bool) (m : ℕ) (z : ℤ) → IsDecimalBody float (a ∷ b ∷ c ∷ d ∷ e ∷ rest) m z → ⊥
  front_decimal float m z h =
      let whole = front_whole h.whole h.tail h.octets h.is_whole (tail_stops h.tail h.fraction float h.below h.written h.is_tail) in
      let tail = same_rest h.whole (a ∷ b ∷ c ∷ d ∷ []) h.tail (e ∷ rest) whole (sym h.octets) in
      let P : List ℕ → Type 0 = λ x. IsTail x h.fraction float h.below h.written in
      front_no_tail e rest h.fraction float h.below h.written stop (subst P tail h.is_tail)

  front_base : (base : ℕ) → HasBase base (a ∷ b ∷ c ∷ d ∷ e ∷ rest) → ⊥
  front_base base h =
      let P : ℕ → Type 0 = λ x. digit_value x < 10 in
      elim (h.1) [
        | inl k ↦ elim (k.1) [ inl is ↦ absurd (omega (arith, subst P is db)) | inr is ↦ absurd (omega (arith, subst P is db)) ]
        | inr k ↦ elim (k.1) [ inl is ↦ absurd (omega (arith, subst P is db)) | inr is ↦ absurd (omega (arith, subst P is db)) ]
      ]

  front_magnitude : (n : ℕ) → IsMagnitude (a ∷ b ∷ c ∷ d ∷ e ∷ rest) n → ⊥
  front_magnitude n (inl m) =
      let os = a ∷ b ∷ c ∷ d ∷ e ∷ rest in
      let same = front_whole os [] (sym (append-nil os)) (m.0) tt in
      let size = ap length same in
      omega arith
  front_magnitude n (inr r) = let k = radix_base (a ∷ b ∷ c ∷ d ∷ e ∷ rest) n r in front_base k.0 k.1

  front_behind : (s : Bool) (x : Number) → IsBehind s (a ∷ b ∷ c ∷ d ∷ e ∷ rest) x → ⊥
  front_behind s (Number.Int z) is = front_magnitude is.0 is.1
  front_behind s (Number.Decimal z) is = front_decimal false z.magnitude z.exponent is.1
  front_behind s (Number.Timestamp t) is = is

  front_sign : BeginsWithMinus false (a ∷ b ∷ c ∷ d ∷ e ∷ rest)
  front_sign =
      let P : ℕ → Type 0 = λ x. digit_value x < 10 in
      (λ f. absurd (false≢true f), λ is. absurd (omega (arith, subst P is da)))

  front_numeral : (x : Number) → IsNumeral (a ∷ b ∷ c ∷ d ∷ e ∷ rest) x → ⊥
  front_numeral x i = front_behind false x (number_behind false _ (a ∷ b ∷ c ∷ d ∷ e ∷ rest) x front_sign refl i)

  front_float : IsFloat (a ∷ b ∷ c ∷ d ∷ e ∷ rest) → ⊥
  front_float i = let f = float_behind false (a ∷ b ∷ c ∷ d ∷ e ∷ rest) (a ∷ b ∷ c ∷ d ∷ e ∷ rest) front_sign refl i in
      front_decimal true f.magnitude f.exponent f.is

no_front : (os : List ℕ) → AreFourAt os 0 × (IsAt os 4 45 ⊎ IsAt os 4 84) → ((x : Number) → IsNumeral os x → ⊥) × (IsFloat os → ⊥)
no_front [] h = absurd (omega (arith, h.0.0.0.0))
no_front (a ∷ []) h = absurd (omega (arith, h.0.0.1.0))
no_front (a ∷ b ∷ []) h = absurd (omega (arith, h.0.1.0.0))
no_front (a ∷ b ∷ c ∷ []) h = absurd (omega (arith, h.0.1.1.0))
no_front (a ∷ b ∷ c ∷ d ∷ []) h = absurd (elim (h.1) [ inl p ↦ omega (arith, p.0) | inr p ↦ omega (arith, p.0) ])
no_front (a ∷ b ∷ c ∷ d ∷ e ∷ rest) h =
    let da = digit a (h.0.0.0.1) (h.0.0.0.2) in
    let db = digit b (h.0.0.1.1) (h.0.0.1.2) in
    let dc = digit c (h.0.1.0.1) (h.0.1.0.2) in
    let dd = digit d (h.0.1.1.1) (h.0.1.1.2) in
    let stop : (e ≡ 45) ⊎ (e ≡ 84) = elim (h.1) [ inl p ↦ inl (p.1) | inr p ↦ inr (p.1) ] in
    (front_numeral a b c d e rest da db dc dd stop, front_float a b c d e rest da db dc dd stop)

pub timestamp_alone : (token : List ℕ) (t : TimestampParts) → IsTimestampToken token t → ((x : Number) → IsNumeral token x → ⊥) × (IsFloat token → ⊥)
timestamp_alone token t is = no_front token (stamp_front token t is)

-- a token spells one number at most
pub one_number : (token : List ℕ) (x y : Number) → IsNumber token x → IsNumber token y → x ≡ y
one_number token (Number.Timestamp s) (Number.Timestamp t) i j = ap Number.Timestamp (one_timestamp token s t i j)
one_number token (Number.Timestamp s) (Number.Int z) i j = absurd ((timestamp_alone token s i).0 (Number.Int z) j)
one_number token (Number.Timestamp s) (Number.Decimal d) i j = absurd ((timestamp_alone token s i).0 (Number.Decimal d) j)
one_number token (Number.Int z) (Number.Timestamp t) i j = absurd ((timestamp_alone token t j).0 (Number.Int z) i)
one_number token (Number.Decimal d) (Number.Timestamp t) i j = absurd ((timestamp_alone token t j).0 (Number.Decimal d) i)
one_number token (Number.Int y) (Number.Int z) i j = one_numeral token (Number.Int y) (Number.Int z) i j
one_number token (Number.Int y) (Number.Decimal d) i j = one_numeral token (Number.Int y) (Number.Decimal d) i j
one_number token (Number.Decimal d) (Number.Int z) i j = one_numeral token (Number.Decimal d) (Number.Int z) i j
one_number token (Number.Decimal d) (Number.Decimal e) i j = one_numeral token (Number.Decimal d) (Number.Decimal e) i j

-- and is no float then
pub number_no_float : (token : List ℕ) (x : Number) → IsNumber token x → IsFloat token → ⊥
number_no_float token (Number.Timestamp t) i f = (timestamp_alone token t i).1 f
number_no_float token (Number.Int z) i f = numeral_no_float token (Number.Int z) i f
number_no_float token (Number.Decimal d) i f = numeral_no_float token (Number.Decimal d) i f

no_there : (token : List ℕ) → ((x : Number) → IsNumeral token x → ⊥)
    → ((t : TimestampParts) → IsTimestampToken token t → IsShort t.precision × (IsTimestamp t → ⊥)) → (x : Number) → IsNumber token x → Fits x × (IsThere x → ⊥)
no_there token none h (Number.Timestamp t) is = h t is
no_there token none h (Number.Int z) is = absurd (none (Number.Int z) is)
no_there token none h (Number.Decimal d) is = absurd (none (Number.Decimal d) is)

-- a timestamp that a token spells is the number that it is read as
pub timestamp_answer : (token : List ℕ) (x : Number) → ReadsTimestamp token (Ok x) → ReadsNumber token (Ok x)
timestamp_answer token (Number.Timestamp t) h = (h.0, there_short t (h.1), h.1)
timestamp_answer token _ h = absurd h

-- of a token that is no int, decimal or float, the forms of a timestamp alone decide
pub stamp_answer : (token : List ℕ) (r : Result Number Reason) → ReadsNumeral token (Err Malformed) → ReadsTimestamp token r → ReadsNumber token r
stamp_answer token (Ok x) n h = timestamp_answer token x h
stamp_answer token (Err TooLarge) n h = (Number.Timestamp (h.0), h.1, h.2)
stamp_answer token (Err Malformed) n h = (no_there token (n.0) h, n.1)
stamp_answer token (Err _) n h = absurd h

-- what a token is read as is settled
pub one_answer : (token : List ℕ) (a b : Result Number Reason) → ReadsNumber token a → ReadsNumber token b → a ≡ b
one_answer token (Ok x) (Ok y) g h = ap Ok (one_number token x y g.0 h.0)
one_answer token (Ok x) (Err TooLarge) g h = let P : Number → Type 0 = Fits in absurd (h.2 (subst P (one_number token x h.0 g.0 h.1) (g.1)))
one_answer token (Ok x) (Err Malformed) g h = absurd ((h.0 x g.0).1 (g.2))
one_answer token (Ok x) (Err Float) g h = absurd (number_no_float token x g.0 h)
one_answer token (Ok x) (Err _) g h = absurd h
one_answer token (Err TooLarge) (Ok y) g h = let P : Number → Type 0 = Fits in absurd (g.2 (subst P (one_number token y g.0 h.0 g.1) (h.1)))
one_answer token (Err TooLarge) (Err TooLarge) g h = refl
one_answer token (Err TooLarge) (Err Malformed) g h = absurd (g.2 (h.0 g.0 g.1).0)
one_answer token (Err TooLarge) (Err Float) g h = absurd (number_no_float token g.0 g.1 h)
one_answer token (Err TooLarge) (Err _) g h = absurd h
one_answer token (Err Malformed) (Ok y) g h = absurd ((g.0 y h.0).1 (h.2))
one_answer token (Err Malformed) (Err TooLarge) g h = absurd (h.2 (g.0 h.0 h.1).0)
one_answer token (Err Malformed) (Err Malformed) g h = refl
one_answer token (Err Malformed) (Err Float) g h = absurd (g.1 h)
one_answer token (Err Malformed) (Err _) g h = absurd h
one_answer token (Err Float) (Ok y) g h = absurd (number_no_float token y h.0 g)
one_answer token (Err Float) (Err TooLarge) g h = absurd (number_no_float token h.0 h.1 g)
one_answer token (Err Float) (Err Malformed) g h = absurd (h.1 g)
one_answer token (Err Float) (Err Float) g h = refl
one_answer token (Err Float) (Err _) g h = absurd h
one_answer token (Err _) b g h = absurd g
