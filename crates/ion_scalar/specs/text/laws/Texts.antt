-- What is written as text spells the number.
use Rattle.std.proofs.Common.{◌≡◌, ◌≢◌, ℕ, suc, ◌+◌, ◌/◌, ◌%◌, ◌^◌, ◌<◌, ◌≤◌, inl, inr, List, [], ◌∷◌, ◌++◌, length, get_or, Bool, true, false, ℤ, pos, negsuc, ◌-ℤ◌, refl, sym, ap, ◌∙◌, arith, length-append, append-nil, Ok}
use Rattle.std.specs.Char.{digit_value}
use Rattle.std.specs.Fmt.{decimal, signed_decimal}
use Rattle.std.proofs.lemmas.Int.{ints}
use Rattle.std.proofs.lemmas.Bool.{cases_lt}
use Rattle.std.proofs.lemmas.Fmt.{decimal_by_steps_wide, decimal_digit}
use Rattle.std.proofs.lemmas.Str.{digit_value_digit}
use Rattle.ion_scalar.specs.Names.{DecimalParts, IsDecimal, IsDigits, IsNumber, IsPower, IsSigned, IsWhole, IsWholePart, Number, ReadsNumber, decimal_text, digits_in, number, number_text, positional, positional_push, signed}
use Rattle.ion_scalar.specs.text.laws.DigitRuns.{digits_in_one, digits_in_push, digits_push}

-- a digit that is written has its value
pub digit_of : (d : ℕ) → d < 10 → digit_value (48 + d) ≡ d
digit_of d h = omega (arith, digit_value_digit (48 + d) (omega arith, omega arith))

-- plain digits of that number
pub record Writes (n : ℕ) (ds : List ℕ) : Type 0 where
  pub digits : IsDigits 10 ds
  pub plain : length (digits_in ds) ≡ length ds
  pub value : number 10 ds ≡ n

-- a digit alone
pub writes_one : (n : ℕ) → n < 10 → Writes n ((48 + n) ∷ [])
writes_one n h =
    let v = digit_of n h in
    let e : digits_in ((48 + n) ∷ []) ≡ n ∷ [] = digits_in_one 10 (48 + n) (omega arith) (omega (arith, v)) ∙ ap (λ x. x ∷ []) v in
    record { digits = omega (arith, v); plain = ap length e; value = ap (positional 10) e ∙ omega arith }

-- the last digit behind the others
pub writes_more : (n : ℕ) (ds : List ℕ) → Writes (n / 10) ds → Writes n (ds ++ (48 + n % 10) ∷ [])
writes_more n ds s =
    let d = n % 10 in
    let v = digit_of d (omega arith) in
    let is : digit_value (48 + d) < 10 = omega (arith, v) in
    let e : digits_in (ds ++ (48 + d) ∷ []) ≡ digits_in ds ++ d ∷ [] = digits_in_push 10 (48 + d) ds (omega arith) is ∙ ap (λ x. digits_in ds ++ x ∷ []) v in
    record {
      digits = digits_push 10 ds (48 + d) s.digits is;
      plain = ap length e ∙ omega (arith, length-append (digits_in ds) (d ∷ []), length-append ds ((48 + d) ∷ []), s.plain);
      value = ap (positional 10) e ∙ (positional_push 10 (digits_in ds) d ∙ omega (arith, s.value));
    }

-- and without a leading zero
record Spells (n : ℕ) (ds : List ℕ) : Type 0 where
  pub writes : Writes n ds
  pub some : 0 < length ds
  pub first : 0 < n → get_or ds 0 0 ≢ 48

one_digit : (n : ℕ) → n < 10 → Spells n ((48 + n) ∷ [])
one_digit n h = record { writes = writes_one n h; some = omega arith; first = λ p is. absurd (omega (arith, is)) }

first_push : (ds : List ℕ) (c : ℕ) → 0 < length ds → get_or (ds ++ c ∷ []) 0 0 ≡ get_or ds 0 0
first_push [] c h = absurd (omega arith)
first_push (d ∷ ds) c h = refl

one_more : (n : ℕ) (ds : List ℕ) → 10 ≤ n → Spells (n / 10) ds → Spells n (ds ++ ((48 + n % 10) ∷ []))
one_more n ds h s = record {
  writes = writes_more n ds s.writes;
  some = omega (arith, length-append ds ((48 + n % 10) ∷ []));
  first = λ p is. s.first (omega arith) (sym (first_push ds (48 + n % 10) s.some) ∙ is);
}

spells : (n : ℕ) → n < 10 ^ 64 → Spells n (decimal n)
spells = decimal_by_steps_wide Spells one_digit one_more

whole_text : (n : ℕ) → n < 10 ^ 64 → IsWholePart (decimal n)
whole_text n h =
    let s = spells n h in
    elim (cases_lt 0 n) [
      | inl lt ↦ inr (s.writes.digits, s.first lt)
      | inr le ↦ inl (let e : n ≡ 0 = omega arith in rw e (decimal_digit 0 (omega arith)))
    ]

pub int_text : (z : ℤ) → IsWhole z → IsNumber (signed_decimal z) (Number.Int z)
int_text (pos n) h = let s = spells n (omega arith) in record {
  negative = false;
  body = decimal n;
  octets = refl;
  is =
      (n, inl (whole_text n (omega arith), sym s.writes.value), refl);
}
int_text (negsuc n) h = let s = spells (suc n) (omega arith) in
    record { negative = true; body = decimal (suc n); octets = refl; is = (suc n, inl (whole_text (suc n) (omega arith), sym s.writes.value), refl) }

plain_signed : (os : List ℕ) (n : ℕ) → Spells n os → IsSigned os false n
plain_signed [] n s = absurd (omega (arith, s.some))
plain_signed (c ∷ os) n s = inr (inr (refl, (s.writes.digits, s.writes.plain), sym s.writes.value))

-- a written exponent
power_text : (e : ℤ) → IsWhole e → (below : Bool) × (n : ℕ) × IsSigned (signed_decimal e) below n × (e ≡ signed below n)
power_text (pos n) h = let s = spells n (omega arith) in (false, n, plain_signed (decimal n) n s, refl)
power_text (negsuc n) h = let s = spells (suc n) (omega arith) in (true, suc n, inl (refl, refl, (s.writes.digits, s.writes.plain), sym s.writes.value), refl)

no_less : (z : ℤ) → z -ℤ pos 0 ≡ z
no_less (pos n) = grind (arith, ints)
no_less (negsuc n) = grind (arith, ints)

pub decimal_is : (d : DecimalParts) → d.magnitude < 2 ^ 127 → IsWhole d.exponent → IsNumber (decimal_text d) (Number.Decimal d)
decimal_is d m e =
    let p = power_text d.exponent e in
    let s = spells d.magnitude (omega arith) in
    record {
      negative = d.negative;
      body = decimal d.magnitude ++ 100 ∷ signed_decimal d.exponent;
      octets = refl;
      is = (
        refl,
        record {
          whole = decimal d.magnitude;
          tail = 100 ∷ signed_decimal d.exponent;
          fraction = [];
          below = p.0;
          written = p.1;
          octets = refl;
          is_whole = whole_text d.magnitude (omega arith);
          is_tail = inr (refl, (inl refl, p.2));
          digits = sym s.writes.value ∙ ap (number 10) (sym (append-nil (decimal d.magnitude)));
          power = p.3 ∙ sym (no_less (signed p.0 p.1));
        },
      );
    }

-- the texts of an int and of a decimal that are kept are read as them
pub int_reads : (z : ℤ) → IsWhole z → ReadsNumber (number_text (Number.Int z)) (Ok (Number.Int z))
int_reads z h = (int_text z h, h, tt)

-- an exponent that is kept is an int that is kept
power_is : (e : ℤ) → IsPower e → IsWhole e
power_is (pos n) h = omega (arith, ints, h.1)
power_is (negsuc n) h = omega (arith, ints, h.0)

-- the text of a decimal that is kept is read as it
pub decimal_reads : (d : DecimalParts) → IsDecimal d → ReadsNumber (number_text (Number.Decimal d)) (Ok (Number.Decimal d))
decimal_reads d h = (decimal_is d h.0 (power_is d.exponent (h.1, h.2)), h, tt)
