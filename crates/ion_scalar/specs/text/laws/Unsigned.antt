-- What stands behind the sign of a number token.
use Rattle.std.proofs.Common.{◌≡◌, ◌≢◌, ℕ, ◌<◌, ◌^◌, ◌⊎◌, inl, inr, List, [], ◌∷◌, ◌++◌, length, take, drop, min, Bool, true, false, ℤ, pos, ◌-ℤ◌, refl, sym, ap, subst, ◌∙◌, arith, Result, Ok, Err, IfOk, IfErr}
use Rattle.std.proofs.lemmas.Bool.{false≢true}
use Rattle.std.proofs.lemmas.List.{append-nil, take_all, length-take-le}
use Rattle.std.specs.Char.{digit_value}
use Rattle.ion_scalar.specs.Names.{BeginsWithMinus, Fits, Float, GoesNotOn, HasBase, IsBehind, IsDecimalBody, IsDigits, IsFloat, IsFloatBody, IsLetter, IsMagnitude, IsNumeral, IsRadix, IsTail, IsWholePart, Malformed, Number, ReadsBehind, ReadsNumeral, Reason, Shows, Tail, TooLarge, continued, decimal_read, minus, number, signed}
use Rattle.ion_scalar.specs.text.laws.DecimalCuts.{body_is, coefficient, no_body, tail_stops, whole_digits}
use Rattle.ion_scalar.specs.text.laws.OneRun.{first_digit}
use Rattle.ion_scalar.specs.text.laws.Signs.{no_sign}

-- the letters of a base are none that a tail begins with
no_letter : (float : Bool) (x : ℕ) → (x ≡ 46) ⊎ IsLetter float x → (base : ℕ) → ((base ≡ 16) × ((x ≡ 120) ⊎ (x ≡ 88))) ⊎ ((base ≡ 2) × ((x ≡ 98) ⊎ (x ≡ 66)))
    → ⊥
no_letter false x letter base announced = grind arith
no_letter true x letter base announced = grind arith

tail_first : (c : ℕ) (os f : List ℕ) (float s : Bool) (n : ℕ) → IsTail (c ∷ os) f float s n → (c ≡ 46) ⊎ IsLetter float c
tail_first c os f float s n (inl p) = inl (p.0)
tail_first c os f float s n (inr p) = inr (p.1.0)

based_tail : (float : Bool) (base : ℕ) (body whole tail f : List ℕ) (s : Bool) (n : ℕ) → HasBase base body → body ≡ whole ++ tail → IsWholePart whole
    → IsTail tail f float s n → ⊥
based_tail float base [] whole tail f s n h cut w t = h
based_tail float base (c ∷ []) whole tail f s n h cut w t = h
based_tail float base (c ∷ x ∷ ds) [] tail f s n h cut (inl one) t = cc
based_tail float base (c ∷ x ∷ ds) [] tail f s n h cut (inr some) t = some.0
based_tail float base (c ∷ x ∷ ds) (a ∷ w) tail f s n h cut (inr some) t = some.1 (let e : a ≡ c = cc in e ∙ h.0)
based_tail float base (c ∷ x ∷ ds) (a ∷ w) tail f s n h cut (inl one) t =
    let e : tail ≡ x ∷ ds = cc in
    let P : List ℕ → Type 0 = λ y. IsTail y f float s n in
    no_letter float x (tail_first x ds f float s n (subst P e t)) base h.1

-- `0` and the letter of a base begin no decimal and no float
pub based_decimal : (float : Bool) (base : ℕ) (body : List ℕ) (m : ℕ) (e : ℤ) → HasBase base body → IsDecimalBody float body m e → ⊥
based_decimal float base body m e h d = based_tail float base body d.whole d.tail d.fraction d.below d.written h d.octets d.is_whole d.is_tail

-- a base is announced by one letter
pub radix_base : (body : List ℕ) (n : ℕ) → IsRadix 16 120 88 body n ⊎ IsRadix 2 98 66 body n → (base : ℕ) × HasBase base body × IsDigits base (drop 2 body)
    × (n ≡ number base (drop 2 body))
radix_base [] n r = absurd (elim r [ inl h ↦ h | inr h ↦ h ])
radix_base (c ∷ []) n r = absurd (elim r [ inl h ↦ h | inr h ↦ h ])
radix_base (c ∷ x ∷ ds) n (inl r) = (16, (r.0, inl (refl, r.1)), r.2, r.3)
radix_base (c ∷ x ∷ ds) n (inr r) = (2, (r.0, inr (refl, r.1)), r.2, r.3)

pub base_radix : (base : ℕ) (body : List ℕ) → HasBase base body → IsDigits base (drop 2 body) → IsRadix 16 120 88 body (number base (drop 2 body))
    ⊎ IsRadix 2 98 66 body (number base (drop 2 body))
base_radix base [] h d = absurd h
base_radix base (c ∷ []) h d = absurd h
base_radix base (c ∷ x ∷ ds) h d = elim (h.1) [
  | inl a ↦ inl (h.0, a.1, (let P : ℕ → Type 0 = λ b. IsDigits b ds in subst P (a.0) d), ap (λ b. number b ds) (a.0))
  | inr a ↦ inr (h.0, a.1, (let P : ℕ → Type 0 = λ b. IsDigits b ds in subst P (a.0) d), ap (λ b. number b ds) (a.0))
]

one_base : (a b : ℕ) (body : List ℕ) → HasBase a body → HasBase b body → a ≡ b
one_base a b [] h k = absurd h
one_base a b (c ∷ []) h k = absurd h
one_base a b (c ∷ x ∷ ds) h k = elim (h.1) [
  | inl p ↦ elim (k.1) [
    | inl q ↦ omega (arith, p.0, q.0)
    | inr q ↦ absurd
        (elim (p.1) [ inl y ↦ elim (q.1) [ inl z ↦ omega arith | inr z ↦ omega arith ] | inr y ↦ elim (q.1) [ inl z ↦ omega arith | inr z ↦ omega arith ] ])
  ]
  | inr p ↦ elim (k.1) [
    | inr q ↦ omega (arith, p.0, q.0)
    | inl q ↦ absurd
        (elim (p.1) [ inl y ↦ elim (q.1) [ inl z ↦ omega arith | inr z ↦ omega arith ] | inr y ↦ elim (q.1) [ inl z ↦ omega arith | inr z ↦ omega arith ] ])
  ]
]

whole_no_base : (base : ℕ) (body : List ℕ) → HasBase base body → IsWholePart body → ⊥
whole_no_base base [] h w = h
whole_no_base base (c ∷ []) h w = h
whole_no_base base (c ∷ x ∷ ds) h (inl one) = cc
whole_no_base base (c ∷ x ∷ ds) h (inr some) = some.1 h.0

-- digits of the base that is announced
pub based_magnitude : (base : ℕ) (body : List ℕ) (n : ℕ) → HasBase base body → IsMagnitude body n → IsDigits base (drop 2 body)
    × (n ≡ number base (drop 2 body))
based_magnitude base body n h (inl m) = absurd (whole_no_base base body h (m.0))
based_magnitude base body n h (inr r) =
    let b = radix_base body n r in
    let e = one_base b.0 base body b.1 h in
    (let P : ℕ → Type 0 = λ x. IsDigits x (drop 2 body) in subst P e b.2, b.3 ∙ ap (λ x. number x (drop 2 body)) e)

-- the answer on an int
pub int_answer : (negative : Bool) (body : List ℕ) (n v : ℕ) (r : Result Number Reason) → IsMagnitude body n → v ≡ min n (2 ^ 127)
    → IfOk r (λ x. (n : ℕ) → v ≡ min n (2 ^ 127) → (x ≡ Number.Int (signed negative n)) × Fits x)
    → IfErr r (λ e. (e ≡ TooLarge) × ((n : ℕ) → v ≡ min n (2 ^ 127) → Fits (Number.Int (signed negative n)) → ⊥)) → ReadsBehind negative body r
int_answer negative body n v (Ok x) is cap ok err =
    let k = ok n cap in
    (let P : Number → Type 0 = IsBehind negative body in subst P (sym k.0) (n, is, refl), k.1)
int_answer negative body n v (Err e) is cap ok err =
    let P : Reason → Type 0 = λ y. ReadsBehind negative body (Err y) in
    subst P (sym err.0) (Number.Int (signed negative n), (n, is, refl), err.1 n cap)

decimal_behind : (negative : Bool) (body : List ℕ) (used v : ℕ) (t : Tail) → IsWholePart (take used body) → (s : Shows (IsTail (drop used body)) v t)
    → t.float ≡ false
    → IsBehind negative body (decimal_read negative (number 10 (take used body ++ s.fraction)) t.below s.exponent t.count)
decimal_behind negative body used v t w s decimal =
    let D : Bool → Type 0 = λ f. IsDecimalBody f body (number 10 (take used body ++ s.fraction)) (signed t.below s.exponent -ℤ pos t.count) in
    (refl, subst D decimal (body_is body used v t w s))

no_based_number : (negative : Bool) (base : ℕ) (body : List ℕ) → HasBase base body → (IsDigits base (drop 2 body) → ⊥) → (x : Number) → IsBehind negative body x
    → ⊥
no_based_number negative base body h none (Number.Int z) is = none (based_magnitude base body is.0 h is.1).0
no_based_number negative base body h none (Number.Timestamp t) is = is
no_based_number negative base body h none (Number.Decimal d) is = based_decimal false base body d.magnitude d.exponent h is.1

no_whole_decimal : (float : Bool) (body : List ℕ) (m : ℕ) (e : ℤ) → ((w t : List ℕ) → body ≡ w ++ t → IsWholePart w → GoesNotOn 10 t → ⊥)
    → IsDecimalBody float body m e → ⊥
no_whole_decimal float body m e none d = none d.whole d.tail d.octets d.is_whole (tail_stops d.tail d.fraction float d.below d.written d.is_tail)

-- without a base, an int is a whole part
plain_magnitude : (body : List ℕ) (n : ℕ) → ((base : ℕ) → HasBase base body → ⊥) → IsMagnitude body n → IsWholePart body × (n ≡ number 10 body)
plain_magnitude body n no_base (inl m) = m
plain_magnitude body n no_base (inr r) = let b = radix_base body n r in absurd (no_base b.0 b.1)

no_plain_number : (negative : Bool) (body : List ℕ) → ((base : ℕ) → HasBase base body → ⊥)
    → ((w t : List ℕ) → body ≡ w ++ t → IsWholePart w → GoesNotOn 10 t → ⊥) → (x : Number) → IsBehind negative body x → ⊥
no_plain_number negative body no_base none (Number.Int z) is = none body [] (sym (append-nil body)) (plain_magnitude body is.0 no_base is.1).0 tt
no_plain_number negative body no_base none (Number.Timestamp t) is = is
no_plain_number negative body no_base none (Number.Decimal d) is = no_whole_decimal false body d.magnitude d.exponent none is.1

no_tail_number : (negative : Bool) (body : List ℕ) (used : ℕ) → ((base : ℕ) → HasBase base body → ⊥) → used < length body
    → ((w t : List ℕ) → body ≡ w ++ t → IsWholePart w → GoesNotOn 10 t → w ≡ take used body)
    → ((f : List ℕ) (float s : Bool) (n : ℕ) → IsTail (drop used body) f float s n → ⊥) → (x : Number) → IsBehind negative body x → ⊥
no_tail_number negative body used no_base more only none (Number.Int z) is =
    let e = only body [] (sym (append-nil body)) (plain_magnitude body is.0 no_base is.1).0 tt in
    omega (arith, ap length e, length-take-le used body (omega arith))
no_tail_number negative body used no_base more only none (Number.Timestamp t) is = is
no_tail_number negative body used no_base more only none (Number.Decimal d) is = no_body false body used d.magnitude d.exponent only none is.1

-- the answer on a decimal
pub decimal_answer : (negative : Bool) (body : List ℕ) (used v : ℕ) (t : Tail) (r : Result Number Reason) → IsWholePart (take used body)
    → v ≡ min (number 10 (take used body)) (2 ^ 127) → Shows (IsTail (drop used body)) v t → t.float ≡ false
    → IfOk r (λ x. (m n : ℕ) → t.value ≡ min m (2 ^ 127) → t.written ≡ min n (2 ^ 127) → (x ≡ decimal_read negative m t.below n t.count) × Fits x)
    → IfErr r (λ e. (e ≡ TooLarge) × ((m n : ℕ) → t.value ≡ min m (2 ^ 127) → t.written ≡ min n (2 ^ 127) → Fits (decimal_read negative m t.below n t.count)
    → ⊥)) → ReadsBehind negative body r
decimal_answer negative body used v t (Ok x) w value s plain ok err =
    let m = number 10 (take used body ++ s.fraction) in
    let k = ok m s.exponent (s.coefficient ∙ coefficient (take used body) s.fraction v value) s.bounded in
    let P : Number → Type 0 = IsBehind negative body in
    (subst P (sym k.0) (decimal_behind negative body used v t w s plain), k.1)
decimal_answer negative body used v t (Err e) w value s plain ok err =
    let m = number 10 (take used body ++ s.fraction) in
    let P : Reason → Type 0 = λ y. ReadsBehind negative body (Err y) in
    subst P (sym err.0) (
      decimal_read negative m t.below s.exponent t.count,
      decimal_behind negative body used v t w s plain,
      err.1 m s.exponent (s.coefficient ∙ coefficient (take used body) s.fraction v value) s.bounded,
    )

-- a body of which no value is known
pub no_based : (negative : Bool) (base : ℕ) (body : List ℕ) → HasBase base body → (IsDigits base (drop 2 body) → ⊥)
    → ((x : Number) → IsBehind negative body x → ⊥) × (IsFloatBody body → ⊥)
no_based negative base body h none = (no_based_number negative base body h none, λ f. based_decimal true base body f.magnitude f.exponent h f.is)

-- no whole part
pub no_plain : (negative : Bool) (body : List ℕ) → ((base : ℕ) → HasBase base body → ⊥) → ((w t : List ℕ) → body ≡ w ++ t → IsWholePart w → GoesNotOn 10 t → ⊥)
    → ((x : Number) → IsBehind negative body x → ⊥) × (IsFloatBody body → ⊥)
no_plain negative body no_base none = (no_plain_number negative body no_base none, λ f. no_whole_decimal true body f.magnitude f.exponent none f.is)

-- no tail
pub no_plain_tail : (negative : Bool) (body : List ℕ) (used : ℕ) → ((base : ℕ) → HasBase base body → ⊥) → used < length body
    → ((w t : List ℕ) → body ≡ w ++ t → IsWholePart w → GoesNotOn 10 t → w ≡ take used body)
    → ((f : List ℕ) (float s : Bool) (n : ℕ) → IsTail (drop used body) f float s n → ⊥) → ((x : Number) → IsBehind negative body x → ⊥) × (IsFloatBody body → ⊥)
no_plain_tail negative body used no_base more only none =
    (no_tail_number negative body used no_base more only none, λ f. no_body true body used f.magnitude f.exponent only none f.is)

-- a whole part and a tail with the letter of a float are a float
pub float_body : (body : List ℕ) (used v : ℕ) (t : Tail) → IsWholePart (take used body) → Shows (IsTail (drop used body)) v t → t.float ≡ true
    → IsFloatBody body
float_body body used v t w s float =
    let m = number 10 (take used body ++ s.fraction) in
    let D : Bool → Type 0 = λ f. IsDecimalBody f body m (signed t.below s.exponent -ℤ pos t.count) in
    record { magnitude = m; exponent = signed t.below s.exponent -ℤ pos t.count; is = subst D float (body_is body used v t w s) }

-- the whole part is all
pub whole_magnitude : (body : List ℕ) (used v : ℕ) → used ≡ length body → IsWholePart (take used body) → v ≡ min (number 10 (take used body)) (2 ^ 127)
    → IsMagnitude body (number 10 body) × (v ≡ min (number 10 body) (2 ^ 127))
whole_magnitude body used v all w value =
    let e : take used body ≡ body = take_all used body (omega arith) in
    let P : List ℕ → Type 0 = λ x. IsWholePart x × (v ≡ min (number 10 x) (2 ^ 127)) in
    let k = subst P e (w, value) in
    (inl (k.0, refl), k.1)

-- digits of the base that is announced are an int of their number
pub base_magnitude : (base : ℕ) (body : List ℕ) → HasBase base body → IsDigits base (drop 2 body) → IsMagnitude body (number base (drop 2 body))
base_magnitude base body h d = inr (base_radix base body h d)

none_whole : IsWholePart [] → ⊥
none_whole (inl one) = cc
none_whole (inr some) = some.0

-- behind 0 digits make their own number
pub continued_none : (base : ℕ) (os : List ℕ) → continued base 0 os ≡ number base os
continued_none base os = omega arith

whole_first : (c : ℕ) (os whole tail : List ℕ) → c ∷ os ≡ whole ++ tail → IsWholePart whole → c ≢ 45
whole_first c os [] tail cut w is = none_whole w
whole_first c os (a ∷ w) tail cut h is =
    let e : a ≡ 45 = cc in
    let P : ℕ → Type 0 = λ y. digit_value y < 10 in
    absurd (omega (arith, subst P e (first_digit 10 a w (whole_digits (a ∷ w) h))))

-- the octets of a number begin with a digit
pub decimal_first : (float : Bool) (c : ℕ) (os : List ℕ) (m : ℕ) (e : ℤ) → IsDecimalBody float (c ∷ os) m e → c ≢ 45
decimal_first float c os m e d = whole_first c os d.whole d.tail d.octets d.is_whole

-- one sign and one body: a body doesn't begin with `-`
pub one_sign : (negative s : Bool) (token body other : List ℕ) → BeginsWithMinus negative token → token ≡ minus negative ++ body → token ≡ minus s ++ other
    → ((c : ℕ) (os : List ℕ) → other ≡ c ∷ os → c ≢ 45) → (negative ≡ s) × (other ≡ body)
one_sign true false token body [] b e f first = cc
one_sign true false token body (c ∷ other) b e f first = absurd (first c other refl cc)
one_sign false true [] body other b e f first = cc
one_sign false true (c ∷ token) body other b e f first = absurd (false≢true (b.1 cc))
one_sign _ _ token body other b e f first = (refl, cc)

-- what stands behind a sign doesn't begin with `-`
pub behind_first : (negative : Bool) (c : ℕ) (os : List ℕ) (x : Number) → IsBehind negative (c ∷ os) x → c ≢ 45
behind_first negative c os (Number.Int z) is = no_sign c os is.0 is.1
behind_first negative c os (Number.Timestamp t) is = absurd is
behind_first negative c os (Number.Decimal d) is = decimal_first false c os d.magnitude d.exponent is.1

-- what a token spells as an int or a decimal, its octets behind the sign are with that sign
pub number_behind : (negative : Bool) (token body : List ℕ) (x : Number) → BeginsWithMinus negative token → token ≡ minus negative ++ body → IsNumeral token x
    → IsBehind negative body x
number_behind negative token body x b e i =
    let first : (c : ℕ) (os : List ℕ) → i.body ≡ c ∷ os → c ≢ 45 = λ c os same. let P : List ℕ → Type 0 = λ y. IsBehind i.negative y x in
    behind_first i.negative c os x (subst P same i.is) in
    let one = one_sign negative i.negative token body i.body b e i.octets first in
    let P : Bool → Type 0 = λ s. IsBehind s i.body x in
    let Q : List ℕ → Type 0 = λ y. IsBehind negative y x in
    subst Q one.1 (subst P (sym one.0) i.is)

-- a float's octets behind the sign are those of a float
pub float_behind : (negative : Bool) (token body : List ℕ) → BeginsWithMinus negative token → token ≡ minus negative ++ body → IsFloat token → IsFloatBody body
float_behind negative token body b e i =
    let first : (c : ℕ) (os : List ℕ) → i.body ≡ c ∷ os → c ≢ 45 = λ c os same. let f = i.is in let P : List ℕ → Type 0 =
    λ y. IsDecimalBody true y f.magnitude f.exponent in decimal_first true c os f.magnitude f.exponent (subst P same f.is) in
    let one = one_sign negative i.negative token body i.body b e i.octets first in
    subst IsFloatBody one.1 i.is

-- from what stands behind the sign to the token
pub token_answer : (negative : Bool) (token body : List ℕ) (r : Result Number Reason) → BeginsWithMinus negative token → token ≡ minus negative ++ body
    → ReadsBehind negative body r → ReadsNumeral token r
token_answer negative token body (Ok x) b e h = (record { negative = negative; body = body; octets = e; is = h.0 }, h.1)
token_answer negative token body (Err TooLarge) b e h = (h.0, record { negative = negative; body = body; octets = e; is = h.1 }, h.2)
token_answer negative token body (Err Float) b e h = record { negative = negative; body = body; octets = e; is = h }
token_answer negative token body (Err Malformed) b e h =
    (λ x i. h.0 x (number_behind negative token body x b e i), λ f. h.1 (float_behind negative token body b e f))
token_answer negative token body (Err _) b e h = absurd h
