-- Whether octets are digits, an int, a decimal or a float.
use Rattle.std.proofs.Common.{◌≡◌, ℕ, ◌⊎◌, inl, inr, List, [], ◌∷◌, ◌++◌, length, slice_index, Bool, true, false, ℤ, pos, ◌-ℤ◌, refl, ap}
use Rattle.std.proofs.Math.Decide.{map_dec, ℕ_discrete, dec_lt}
use Rattle.std.specs.Char.{digit_value}
use Rattle.ion_scalar.specs.Names.{IsBehind, IsDecimalBody, IsDigits, IsEnd, IsExponent, IsFloat, IsFloatBody, IsFraction, IsLetter, IsMagnitude, IsNumeral, IsPlain, IsRadix, IsSigned, IsTail, IsWholePart, Number, digits_in, number, signed}
use Rattle.ion_scalar.specs.text.laws.Deciding.{Cut, both, either, is_empty, not_so, some_behind, some_cut}

digits : (base : ℕ) (os : List ℕ) → Dec (IsDigits base os)
digits base [] = no (λ h. h)
digits base (c ∷ []) = dec_lt (digit_value c) base
digits base (c ∷ d ∷ os) = both (dec_lt (digit_value c) base) (either (digits base (d ∷ os)) (both (ℕ_discrete d 95) (digits base os)))

-- 1. Ints.

one_zero : (os : List ℕ) → Dec (os ≡ 48 ∷ [])
one_zero (c ∷ []) = map_dec (λ e. ap (λ x. x ∷ []) e) (λ e. let h : c ≡ 48 = cc in h) (ℕ_discrete c 48)
one_zero _ = no (λ e. cc)

whole : (os : List ℕ) → Dec (IsWholePart os)
whole os = either (one_zero os) (both (digits 10 os) (not_so (ℕ_discrete (slice_index os 0) 48)))

abbrev SomeRadix : ℕ → ℕ → ℕ → List ℕ → Type 0
SomeRadix base lower upper os = (n : ℕ) × IsRadix base lower upper os n

radix : (base lower upper : ℕ) (os : List ℕ) → Dec (SomeRadix base lower upper os)
radix base lower upper [] = no (λ h. h.1)
radix base lower upper (c ∷ []) = no (λ h. h.1)
radix base lower upper (c ∷ x ∷ ds) =
    map_dec (λ h. (number base ds, (h.0, h.1.0, h.1.1, refl))) (λ h. (h.1.0, (h.1.1, h.1.2)))
    (both (ℕ_discrete c 48) (both (either (ℕ_discrete x lower) (ℕ_discrete x upper)) (digits base ds)))

abbrev SomeMagnitude : List ℕ → Type 0
SomeMagnitude os = (n : ℕ) × IsMagnitude os n

magnitude : (os : List ℕ) → Dec (SomeMagnitude os)
magnitude os =
    map_dec
    (λ h. elim h [ inl w ↦ (number 10 os, inl (w, refl)) | inr r ↦ elim r [ inl a ↦ (a.0, inr (inl a.1)) | inr b ↦ (b.0, inr (inr b.1)) ] ])
    (λ h. elim (h.1) [ inl w ↦ inl (w.0) | inr r ↦ elim r [ inl a ↦ inr (inl (h.0, a)) | inr b ↦ inr (inr (h.0, b)) ] ])
    (either (whole os) (either (radix 16 120 88 os) (radix 2 98 66 os)))

-- 2. What stands behind the whole part of a decimal or a float.

-- whether octets are digits without `_` is decided
pub plain : (os : List ℕ) → Dec (IsPlain os)
plain os = both (digits 10 os) (ℕ_discrete (length (digits_in os)) (length os))

abbrev SomeSigned : List ℕ → Type 0
SomeSigned os = (below : Bool) × (n : ℕ) × IsSigned os below n

signed_digits : (os : List ℕ) → Dec (SomeSigned os)
signed_digits [] = no (λ h. h.2)
signed_digits (c ∷ os) =
    map_dec
    (λ h. elim h [
      | inl a ↦ (true, number 10 os, inl (a.0, refl, a.1, refl))
      | inr r ↦ elim r [ inl b ↦ (false, number 10 os, inr (inl (b.0, refl, b.1, refl))) | inr p ↦ (false, number 10 (c ∷ os), inr (inr (refl, p, refl))) ]
    ])
    (λ h. elim (h.2) [ inl a ↦ inl (a.0, a.2) | inr r ↦ elim r [ inl b ↦ inr (inl (b.0, b.2)) | inr p ↦ inr (inr (p.1)) ] ])
    (either (both (ℕ_discrete c 45) (plain os)) (either (both (ℕ_discrete c 43) (plain os)) (plain (c ∷ os))))

letter : (float : Bool) (c : ℕ) → Dec (IsLetter float c)
letter false c = either (ℕ_discrete c 100) (ℕ_discrete c 68)
letter true c = either (ℕ_discrete c 101) (ℕ_discrete c 69)

abbrev SomeExponent : Bool → List ℕ → Type 0
SomeExponent float os = (below : Bool) × (n : ℕ) × IsExponent os float below n

exponent : (float : Bool) (os : List ℕ) → Dec (SomeExponent float os)
exponent float [] = no (λ h. h.2)
exponent float (c ∷ os) = map_dec (λ h. (h.1.0, h.1.1, (h.0, h.1.2))) (λ h. (h.2.0, (h.0, h.1, h.2.1))) (both (letter float c) (signed_digits os))

abbrev SomeEnd : Bool → List ℕ → Type 0
SomeEnd float os = (below : Bool) × (n : ℕ) × IsEnd os float below n

is_false : (b : Bool) → Dec (b ≡ false)
is_false false = yes refl
is_false true = no (λ e. cc)

end : (float : Bool) (os : List ℕ) → Dec (SomeEnd float os)
end float os =
    map_dec
    (λ h. elim h [ inl a ↦ (false, 0, inl (a.0, a.1, refl, refl)) | inr e ↦ (e.0, e.1, inr (e.2)) ])
    (λ h. elim (h.2) [ inl a ↦ inl (a.0, a.1) | inr e ↦ inr (h.0, h.1, e) ])
    (either (both (is_empty os) (is_false float)) (exponent float os))

abbrev SomeFraction : Bool → List ℕ → Type 0
SomeFraction float os = (f : List ℕ) × (below : Bool) × (n : ℕ) × IsFraction os f float below n

abbrev NumberFraction : Bool → List ℕ → List ℕ → Type 0
NumberFraction float f rest = ((f ≡ []) ⊎ IsDigits 10 f) × SomeEnd float rest

fraction : (float : Bool) (os : List ℕ) → Dec (SomeFraction float os)
fraction float os =
    map_dec
    (λ c. (c.front, c.is.1.0, c.is.1.1, record { rest = c.rest; cut = c.octets; digits = c.is.0; exponent = c.is.1.2 }))
    (λ h. let p = h.3 in record { front = h.0; rest = p.rest; octets = p.cut; is = (p.digits, (h.1, h.2, p.exponent)) })
    (some_cut (NumberFraction float) (λ f rest. both (either (is_empty f) (digits 10 f)) (end float rest)) os)

abbrev SomeTail : Bool → List ℕ → Type 0
SomeTail float os = (f : List ℕ) × (below : Bool) × (n : ℕ) × IsTail os f float below n

tail : (float : Bool) (os : List ℕ) → Dec (SomeTail float os)
tail float [] = no (λ h. h.3)
tail float (c ∷ os) =
    map_dec
    (λ h. elim h [ inl p ↦ (p.1.0, p.1.1, p.1.2, inl (p.0, p.1.3)) | inr e ↦ ([], e.0, e.1, inr (refl, e.2)) ])
    (λ h. elim (h.3) [ inl p ↦ inl (p.0, (h.0, h.1, h.2, p.1)) | inr e ↦ inr (h.1, h.2, e.1) ])
    (either (both (ℕ_discrete c 46) (fraction float os)) (exponent float (c ∷ os)))

-- 3. Decimals and floats.

pub record SomeDecimal (float : Bool) (body : List ℕ) : Type 0 where
  pub magnitude : ℕ
  pub exponent : ℤ
  pub is : IsDecimalBody float body magnitude exponent

abbrev DecimalCut : Bool → List ℕ → List ℕ → Type 0
DecimalCut float front rest = IsWholePart front × SomeTail float rest

cut_decimal : (float : Bool) (body : List ℕ) → Cut (DecimalCut float) body → SomeDecimal float body
cut_decimal float body c =
    let t = c.is.1 in
    record {
      magnitude = number 10 (c.front ++ t.0);
      exponent = signed t.1 t.2 -ℤ pos (length (digits_in t.0));
      is = record {
        whole = c.front;
        tail = c.rest;
        fraction = t.0;
        below = t.1;
        written = t.2;
        octets = c.octets;
        is_whole = c.is.0;
        is_tail = t.3;
        digits = refl;
        power = refl;
      };
    }

decimal_cut : (float : Bool) (body : List ℕ) → SomeDecimal float body → Cut (DecimalCut float) body
decimal_cut float body s =
    let d = s.is in
    record { front = d.whole; rest = d.tail; octets = d.octets; is = (d.is_whole, (d.fraction, d.below, d.written, d.is_tail)) }

decimal : (float : Bool) (body : List ℕ) → Dec (SomeDecimal float body)
decimal float body = map_dec (cut_decimal float body) (decimal_cut float body)
    (some_cut (DecimalCut float) (λ front rest. both (whole front) (tail float rest)) body)

float_body : (body : List ℕ) → Dec (IsFloatBody body)
float_body body =
    map_dec (λ s. record { magnitude = s.magnitude; exponent = s.exponent; is = s.is })
    (λ f. record { magnitude = f.magnitude; exponent = f.exponent; is = f.is }) (decimal true body)

-- 4. Whole tokens.

abbrev SomeBehind : Bool → List ℕ → Type 0
SomeBehind negative body = (x : Number) × IsBehind negative body x

behind_parts : (negative : Bool) (body : List ℕ) (x : Number) → IsBehind negative body x → SomeMagnitude body ⊎ SomeDecimal false body
behind_parts negative body (Number.Int z) h = inl (h.0, h.1)
behind_parts negative body (Number.Decimal d) h = inr (record { magnitude = d.magnitude; exponent = d.exponent; is = h.1 })
behind_parts negative body (Number.Timestamp t) h = absurd h

number_behind : (negative : Bool) (body : List ℕ) → SomeMagnitude body ⊎ SomeDecimal false body → SomeBehind negative body
number_behind negative body (inl m) = (Number.Int (signed negative m.0), (m.0, m.1, refl))
number_behind negative body (inr d) = (Number.Decimal (record { negative = negative; magnitude = d.magnitude; exponent = d.exponent }), (refl, d.is))

behind : (negative : Bool) (body : List ℕ) → Dec (SomeBehind negative body)
behind negative body = map_dec (number_behind negative body) (λ h. behind_parts negative body h.0 h.1) (either (magnitude body) (decimal false body))

-- the token spells some int or decimal
abbrev pub SomeNumeral : List ℕ → Type 0
SomeNumeral token = (x : Number) × IsNumeral token x

-- an int or a decimal
pub numeral : (token : List ℕ) → Dec (SomeNumeral token)
numeral token =
    map_dec
    (λ b. (b.is.0, record { negative = b.negative; body = b.body; octets = b.octets; is = b.is.1 }))
    (λ h. let i = h.1 in record { negative = i.negative; body = i.body; octets = i.octets; is = (h.0, i.is) })
    (some_behind SomeBehind behind token)

-- whether a token is a float with an exponent is decided
pub float : (token : List ℕ) → Dec (IsFloat token)
float token =
    map_dec
    (λ b. record { negative = b.negative; body = b.body; octets = b.octets; is = b.is })
    (λ i. record { negative = i.negative; body = i.body; octets = i.octets; is = i.is })
    (some_behind (λ _ body. IsFloatBody body) (λ _ body. float_body body) token)
