-- Ints and decimals of so few digits that 64 bits hold their number.
use Rattle.std.proofs.Common.{◌≡◌, ℕ, zero, suc, ◌+◌, ◌-◌, ◌*◌, ◌^◌, ◌<◌, ◌≤◌, inl, inr, ◌≢◌, List, [], ◌∷◌, ◌++◌, length, take, drop, get_or, Bool, false, Option, Some, None, Ok, IfSome, pos, ◌-ℤ◌, refl, sym, ap, subst, ◌∙◌, arith, length-append}
use Rattle.std.specs.Char.{digit_value}
use Rattle.std.proofs.lemmas.Str.{digit_value_digit}
use Rattle.std.proofs.lemmas.Bool.{cases_lt}
use Rattle.std.proofs.Math.Nat.{pow-suc, one-le-pow, pow-le-pow_right, mul-le-mul_left, mul-le-mul_right}
use Rattle.std.proofs.lemmas.List.{take_all, take-append-drop, append-nil, drop_more, drop_all, length-drop}
use Rattle.ion_scalar.specs.Names.{BeginsWithMinus, Fits, HasParts, IsBehind, IsDecimalBody, IsDigits, IsEnd, IsExponent, IsPlain, IsTail, IsWholePart, Number, ReadsBehind, ReadsNumber, ReadsNumeral, ShortNumber, continued, decimal_read, digits_in, minus, number, positional, positional_push, signed}
use Rattle.ion_scalar.specs.text.laws.DecimalCuts.{continued_number}
use Rattle.ion_scalar.specs.text.laws.DecimalTails.{fraction_is}
use Rattle.ion_scalar.specs.text.laws.DigitRuns.{Place, continued_more, not_mark, run_step}
use Rattle.ion_scalar.specs.text.laws.Unsigned.{continued_none, token_answer}

-- with a digit more, a number leaves room for one digit fewer
pub room_more : (base v d left most : ℕ) → d < base → (v + 1) * base ^ (left + 1) ≤ most → (v * base + d + 1) * base ^ left ≤ most
room_more base v d left most small room =
    let step : v * base + d + 1 ≤ (v + 1) * base = omega arith in
    let more : (v * base + d + 1) * base ^ left ≤ (v + 1) * base * base ^ left = mul-le-mul_right (base ^ left) step in
    let power : base ^ (left + 1) ≡ base ^ left * base = ap (λ n. base ^ n) (omega arith) ∙ pow-suc base left in
    let moved : (v + 1) * base ^ (left + 1) ≡ (v + 1) * base * base ^ left = ap (λ n. (v + 1) * n) power ∙ omega arith in
    omega arith

-- a number that leaves room for digits is itself below the bound
pub below_room : (base v left most : ℕ) → 0 < base → (v + 1) * base ^ left ≤ most → v < most
below_room base v left most some room =
    let one : (v + 1) * 1 ≤ (v + 1) * base ^ left = mul-le-mul_left (v + 1) (one-le-pow left base some) in
    omega arith

-- a run of digits without `_` at the front of octets, their number behind another, and the room that it leaves
pub record PlainRun (os : List ℕ) (before used value : ℕ) : Type 0 where
  pub within : used ≤ length os
  pub digits : 0 < used → IsDigits 10 (take used os)
  pub many : length (digits_in (take used os)) ≡ used
  pub counts : value ≡ continued 10 before (take used os)
  pub room : (value + 1) * 10 ^ (length os - used) ≤ (before + 1) * 10 ^ length os

-- a digit more
pub plain_more : (os : List ℕ) (before used value : ℕ) → used < length os → 48 ≤ get_or os used 0 → get_or os used 0 ≤ 57 → PlainRun os before used value
    → PlainRun os before (used + 1) (value * 10 + (get_or os used 0 - 48))
plain_more os before used value h low high run =
    let c = get_or os used 0 in
    let is : digit_value c + 48 ≡ c = digit_value_digit c (low, high) in
    let s = run_step 10 used used os (omega arith) (inl (refl, λ _ _ mark. absurd (omega arith))) run.digits h (omega arith) in
    let left : length os - used ≡ length os - (used + 1) + 1 = omega arith in
    record {
      within = omega arith;
      digits = λ _. s.0;
      many = omega (arith, ap length s.1, length-append (digits_in (take used os)) (digit_value c ∷ []), run.many);
      counts = omega (arith, run.counts, is, continued_more 10 before (digit_value c) (take used os) (take (used + 1) os) s.1);
      room = room_more 10 value (c - 48) (length os - (used + 1)) _ (omega arith) (rw left at run.room);
    }

-- octets that 64 bits have room for leave it behind a run and one octet more
pub room_behind : (os : List ℕ) (used value : ℕ) → length os ≤ 19 → used < length os → PlainRun os 0 used value
    → (value + 1) * 10 ^ length (drop (used + 1) os) ≤ 2 ^ 64
room_behind os used value few more run =
    let all : 10 ^ length os ≤ 10 ^ 19 = pow-le-pow_right (omega arith) few in
    let fewer : length (drop (used + 1) os) ≤ length os - used = omega (arith, length-drop (used + 1) os) in
    let less : 10 ^ length (drop (used + 1) os) ≤ 10 ^ (length os - used) = pow-le-pow_right (omega arith) fewer in
    let same : (value + 1) * 10 ^ length (drop (used + 1) os) ≤ (value + 1) * 10 ^ (length os - used) = mul-le-mul_left (value + 1) less in
    let room = run.room in
    omega arith

-- a run of digits with `_` or none between them at the front of octets, their number, and the room that it leaves
pub record MarkedRun (base : ℕ) (os : List ℕ) (used value : ℕ) : Type 0 where
  pub within : used ≤ length os
  pub digits : 0 < used → IsDigits base (take used os)
  pub counts : value ≡ number base (take used os)
  pub room : (value + 1) * base ^ (length os - used) ≤ base ^ length os

-- a run without `_` is one
pub marked_from : (os : List ℕ) (used value : ℕ) → PlainRun os 0 used value → MarkedRun 10 os used value
marked_from os used value run =
    record { within = run.within; digits = run.digits; counts = run.counts ∙ continued_none 10 (take used os); room = omega (arith, run.room) }

-- a digit more, behind a `_` or none
pub marked_more : (base : ℕ) (os : List ℕ) (used at value : ℕ) → 2 ≤ base → base ≤ 16 → Place os used at → at < length os → digit_value (get_or os at 0) < base
    → MarkedRun base os used value → MarkedRun base os (at + 1) (value * base + digit_value (get_or os at 0))
marked_more base os used at value some few place h small run =
    let d = digit_value (get_or os at 0) in
    let s = run_step base used at os few place run.digits h small in
    let from : used ≤ at = elim place [ inl here ↦ omega (arith, here.0) | inr marked ↦ omega (arith, marked.0) ] in
    let fewer : base ^ (length os - at) ≤ base ^ (length os - used) = pow-le-pow_right (omega arith) (omega arith) in
    let room : (value + 1) * base ^ (length os - at) ≤ base ^ length os = omega (arith, mul-le-mul_left (value + 1) fewer, run.room) in
    let left : length os - at ≡ length os - (at + 1) + 1 = omega arith in
    record {
      within = omega arith;
      digits = λ _. s.0;
      counts = ap (λ n. n * base + d) run.counts ∙ sym (ap (positional base) s.1 ∙ positional_push base (digits_in (take used os)) d);
      room = room_more base value d (length os - (at + 1)) _ small (rw left at room);
    }

-- a hexadecimal digit more
pub hexadecimal_more : (os : List ℕ) (used value d : ℕ) → used < length os → d ≡ digit_value (get_or os used 0) → d < 16 → MarkedRun 16 os used value
    → MarkedRun 16 os (used + 1) (value * 16 + d)
hexadecimal_more os used value d h e few run =
    let c = get_or os used 0 in
    let small : digit_value c < 16 = omega (arith, e) in
    let P : ℕ → Type 0 = λ n. MarkedRun 16 os (used + 1) (value * 16 + n) in
    subst P (sym e) (marked_more 16 os used used value (omega arith) (omega arith) (inl (refl, λ _ _. not_mark 16 c (omega arith) small)) h small run)

-- so few digits make a number that 64 bits hold
pub room_decimal : (os : List ℕ) (used value : ℕ) → length os ≤ 19 → MarkedRun 10 os used value → value < 2 ^ 64
room_decimal os used value few run =
    let most : 10 ^ length os ≤ 10 ^ 19 = pow-le-pow_right (omega arith) few in
    let small = below_room 10 value (length os - used) _ (omega arith) run.room in
    omega arith

pub room_hexadecimal : (os : List ℕ) (used value : ℕ) → length os ≤ 16 → MarkedRun 16 os used value → value < 2 ^ 64
room_hexadecimal os used value few run =
    let most : 16 ^ length os ≤ 16 ^ 16 = pow-le-pow_right (omega arith) few in
    let small = below_room 16 value (length os - used) _ (omega arith) run.room in
    omega arith

-- a run that is all of the octets
pub marked_end : (base : ℕ) (os : List ℕ) (used value : ℕ) → MarkedRun base os used value → length os ≤ used → 0 < length os → IsDigits base os
    × (value ≡ number base os)
marked_end base os used value run all some =
    let P : List ℕ → Type 0 = λ x. IsDigits base x × (value ≡ number base x) in
    subst P (take_all used os all) (run.digits (omega arith), run.counts)

-- a whole part that is all of the octets is an int
pub short_int : (negative : Bool) (body : List ℕ) (used value : ℕ) (x : Number) → PlainRun body 0 used value → used ≡ length body
    → IsWholePart (take used body) → x ≡ Number.Int (signed negative value) → Fits x → ReadsBehind negative body (Ok x)
short_int negative body used value x run all whole is fits =
    let same : take used body ≡ body = take_all used body (omega arith) in
    let counts : value ≡ number 10 body = run.counts ∙ (continued_none 10 (take used body) ∙ ap (number 10) same) in
    let P : Number → Type 0 = IsBehind negative body in
    (subst P (sym is) (value, inl (subst IsWholePart same whole, counts), refl), fits)

-- a whole part, a point, digits or none, and an exponent or none are a decimal
decimal_body : (body : List ℕ) (used value count all : ℕ) (below : Bool) (written : ℕ) → PlainRun body 0 used value → IsWholePart (take used body)
    → used < length body
    → get_or body used 0 ≡ 46 → PlainRun (drop (used + 1) body) value count all → IsEnd (drop count (drop (used + 1) body)) false below written
    → IsDecimalBody false body all (signed below written -ℤ pos count)
decimal_body body used value count all below written run whole more point behind end =
    let w = take used body in
    let rest = drop (used + 1) body in
    let counts : value ≡ number 10 w = run.counts ∙ continued_none 10 w in
    let tail : 46 ∷ rest ≡ drop used body = sym (drop_more body used 0 more ∙ ap (λ c. c ∷ rest) point) in
    let fraction = fraction_is rest count false below written behind.digits end in
    record {
      whole = w;
      tail = drop used body;
      fraction = take count rest;
      below = below;
      written = written;
      octets = sym (take-append-drop used body);
      is_whole = whole;
      is_tail = let T : List ℕ → Type 0 = λ x. IsTail x (take count rest) false below written in subst T tail (inl (refl, fraction));
      digits = behind.counts ∙ (ap (λ n. continued 10 n (take count rest)) counts ∙ continued_number w (take count rest));
      power = ap (λ n. signed below written -ℤ pos n) (sym behind.many);
    }

-- behind a whole part, a point and digits make a decimal
pub short_decimal : (negative : Bool) (body : List ℕ) (used value count all : ℕ) (x : Number) → PlainRun body 0 used value → IsWholePart (take used body)
    → used < length body → get_or body used 0 ≡ 46 → PlainRun (drop (used + 1) body) value count all → length (drop (used + 1) body) ≤ count
    → x ≡ decimal_read negative all false 0 count → Fits x → ReadsBehind negative body (Ok x)
short_decimal negative body used value count all x run whole more point behind end is fits =
    let P : Number → Type 0 = IsBehind negative body in
    let none = inl (drop_all count (drop (used + 1) body) end, refl, refl, refl) in
    (subst P (sym is) (refl, decimal_body body used value count all false 0 run whole more point behind none), fits)

-- a decimal of a coefficient, and of the exponent that these octets are
abbrev pub IsScaled : Bool → ℕ → ℕ → List ℕ → Number → Type 0
IsScaled negative magnitude count os x = (below : Bool) × (n : ℕ) × IsExponent os false below n × (x ≡ decimal_read negative magnitude below n count) × Fits x

-- a run of digits without `_` that is all of the octets
pub plain_end : (os : List ℕ) (used value : ℕ) → PlainRun os 0 used value → length os ≤ used → 0 < length os → IsPlain os × (value ≡ number 10 os)
plain_end os used value run all some =
    let whole : take used os ≡ os = take_all used os all in
    let same : used ≡ length os = omega (arith, run.within) in
    let P : List ℕ → Type 0 = λ x. IsDigits 10 x × (length (digits_in x) ≡ length os) in
    (subst P whole (run.digits (omega arith), run.many ∙ same), run.counts ∙ (continued_none 10 (take used os) ∙ ap (number 10) whole))

-- nine digits make a number below 10^9
pub nine_digits : (os : List ℕ) (used value : ℕ) → PlainRun os 0 used value → length os ≤ used → length os ≤ 9 → value < 10 ^ 9
nine_digits os used value run all few =
    let left : length os - used ≡ 0 = omega arith in
    let room : (value + 1) * 10 ^ 0 ≤ (0 + 1) * 10 ^ length os = rw left at run.room in
    let most : 10 ^ length os ≤ 10 ^ 9 = pow-le-pow_right (omega arith) few in
    omega arith

-- behind a whole part, a point and digits or none, an exponent makes a decimal
pub scaled_decimal : (negative : Bool) (body : List ℕ) (used value count all : ℕ) (r : Option ShortNumber) → PlainRun body 0 used value
    → IsWholePart (take used body) → used < length body → get_or body used 0 ≡ 46 → PlainRun (drop (used + 1) body) value count all
    → IfSome r (λ short. (x : Number) → HasParts short x → IsScaled negative all count (drop count (drop (used + 1) body)) x)
    → IfSome r (λ short. (x : Number) → HasParts short x → ReadsBehind negative body (Ok x))
scaled_decimal negative body used value count all None run whole more point behind scaled = tt
scaled_decimal negative body used value count all (Some short) run whole more point behind scaled = λ x parts.
    let P : Number → Type 0 = IsBehind negative body in
    let h = scaled x parts in
    (subst P (sym h.3) (refl, decimal_body body used value count all h.0 h.1 run whole more point behind (inr h.2)), h.4)

exponent_tail : (os : List ℕ) (below : Bool) (n : ℕ) → IsExponent os false below n → IsTail os [] false below n
exponent_tail [] below n h = h
exponent_tail (c ∷ os) below n h = inr (refl, h)

-- so does one behind a whole part alone
pub scaled_whole : (negative : Bool) (body : List ℕ) (used value : ℕ) (r : Option ShortNumber) → PlainRun body 0 used value → IsWholePart (take used body)
    → IfSome r (λ short. (x : Number) → HasParts short x → IsScaled negative value 0 (drop used body) x)
    → IfSome r (λ short. (x : Number) → HasParts short x → ReadsBehind negative body (Ok x))
scaled_whole negative body used value None run whole scaled = tt
scaled_whole negative body used value (Some short) run whole scaled = λ x parts.
    let h = scaled x parts in
    let w = take used body in
    let P : Number → Type 0 = IsBehind negative body in
    let is : IsDecimalBody false body value (signed h.0 h.1 -ℤ pos 0) = record {
      whole = w;
      tail = drop used body;
      fraction = [];
      below = h.0;
      written = h.1;
      octets = sym (take-append-drop used body);
      is_whole = whole;
      is_tail = exponent_tail (drop used body) h.0 h.1 h.2;
      digits = run.counts ∙ (continued_none 10 w ∙ ap (number 10) (sym (append-nil w)));
      power = refl;
    } in
    (subst P (sym h.3) (refl, is), h.4)

-- a numeral is a number
pub number_of_numeral : (token : List ℕ) (x : Number) → ReadsNumeral token (Ok x) → ReadsNumber token (Ok x)
number_of_numeral token (Number.Timestamp t) h = absurd h.0.is
number_of_numeral token _ h = (h.0, h.1, tt)

-- from what stands behind the sign to the token
pub short_token : (negative : Bool) (token body : List ℕ) (r : Option ShortNumber) → BeginsWithMinus negative token → token ≡ minus negative ++ body
    → IfSome r (λ short. (x : Number) → HasParts short x → ReadsBehind negative body (Ok x))
    → IfSome r (λ short. (x : Number) → HasParts short x → ReadsNumber token (Ok x))
short_token negative token body None b e h = tt
short_token negative token body (Some short) b e h = λ x parts.
    number_of_numeral token x (token_answer negative token body (Ok x) b e (h x parts))

-- one digit alone is a whole part
one_whole : (c : ℕ) → IsDigits 10 (c ∷ []) → IsWholePart (c ∷ [])
one_whole c digit = elim (cases_lt c 48) [
  | inl less ↦ inr (digit, λ e. absurd (omega arith))
  | inr from ↦ elim (cases_lt 48 c) [ inl more ↦ inr (digit, λ e. absurd (omega arith)) | inr to ↦ inl (ap (λ x. x ∷ []) (omega arith)) ]
]

-- a run of digits that isn't `0` and more is a whole part
pub short_whole : (os : List ℕ) (used value : ℕ) → PlainRun os 0 used value → 0 < used → (1 < used → get_or os 0 0 ≢ 48) → IsWholePart (take used os)
short_whole os zero value run some first = absurd (omega arith)
short_whole [] (suc k) value run some first = absurd (omega (arith, run.within))
short_whole (c ∷ os) (suc zero) value run some first = one_whole c (run.digits some)
short_whole (c ∷ os) (suc (suc k)) value run some first = inr (run.digits some, first (omega arith))
