-- Ints and decimals of few plain digits have a number, and it is read off their digits.
use Rattle.std.proofs.Common.{◌≡◌, ◌≢◌, ℕ, zero, suc, ◌+◌, ◌-◌, ◌*◌, ◌^◌, ◌<◌, ◌≤◌, inl, inr, List, [], ◌∷◌, length, take, drop, get_or, pos, neg_ℤ, ◌-ℤ◌, ◌++◌, Bool, true, false, Ok, refl, sym, ap, subst, ◌∙◌, arith, length-drop}
use Rattle.std.proofs.lemmas.Int.{ints}
use Rattle.std.specs.Prelude.{◌≤ℤ◌, ◌<ℤ◌}
use Rattle.std.proofs.lemmas.List.{get_or-take, get_or-drop, length-take-le}
use Rattle.ion_scalar.specs.Names.{BeginsWithMinus, Fits, IsWhole, Number, ReadsBehind, ReadsNumber, decimal_read, minus, signed}
use Rattle.ion_scalar.specs.text.PlainNumerals.{HasNumeral, IsPlainDigit, PlainNumeral, PlainToken}
use Rattle.ion_scalar.specs.text.laws.ShortNumbers.{PlainRun, below_room, marked_from, number_of_numeral, plain_more, room_behind, room_decimal, short_decimal, short_int, short_whole}
use Rattle.ion_scalar.specs.text.laws.Unsigned.{token_answer}

-- digits have a number
run_of : (os : List ℕ) (before n : ℕ) → n ≤ length os → ((i : ℕ) → i < n → IsPlainDigit (get_or os i 0)) → (value : ℕ) × PlainRun os before n value
run_of os before zero within digits =
    let all : length os - 0 ≡ length os = omega arith in (
      before,
      record {
        within = within;
        digits = λ some. absurd (omega arith);
        many = refl;
        counts = omega arith;
        room = subst (λ n. (before + 1) * 10 ^ n ≤ (before + 1) * 10 ^ length os) (sym all) (omega arith);
      },
    )
run_of os before (suc n) within digits =
    let front = run_of os before n (omega arith) (λ i h. digits i (omega arith)) in
    let last = digits n (omega arith) in
    let more : n + 1 ≡ suc n = omega arith in
    let value = front.0 * 10 + (get_or os n 0 - 48) in
    (value, subst (λ k. PlainRun os before k value) more (plain_more os before n front.0 (omega arith) last.0 last.1 front.1))

signed_fits : (negative : Bool) (n : ℕ) → n < 2 ^ 64 → IsWhole (signed negative n)
signed_fits false n h = omega arith
signed_fits true zero h = omega arith
signed_fits true (suc k) h = omega arith

power_fits : (count : ℕ) → count < 20 → (neg_ℤ (pos (2 ^ 31)) ≤ℤ (signed false 0 -ℤ pos count)) × ((signed false 0 -ℤ pos count) <ℤ pos (2 ^ 31))
power_fits count h = (omega (arith, ints), omega (arith, ints))

-- the numeral is all of the octets
body_reads : (negative : Bool) (body : List ℕ) → PlainNumeral body (length body) → (x : Number) × ReadsBehind negative body (Ok x)
body_reads negative body h = elim h.behind [
  | inl all ↦
      let run = run_of body 0 h.whole (omega arith) h.digits in
      let x = Number.Int (signed negative run.0) in (
        x,
        short_int negative body h.whole run.0 x run.1 all (short_whole body h.whole run.0 run.1 h.some h.first) refl
            (signed_fits negative run.0 (room_decimal body h.whole run.0 h.few (marked_from body h.whole run.0 run.1))),
      )
  | inr point ↦
      let run = run_of body 0 h.whole (omega (arith, point.0)) h.digits in
      let rest = drop (h.whole + 1) body in
      let size : length rest ≡ length body - (h.whole + 1) = length-drop (h.whole + 1) body in
      let behind = run_of rest run.0 (length rest) (omega arith)
      (λ i less. subst IsPlainDigit (sym (get_or-drop (h.whole + 1) body i 0)) (point.2 (h.whole + 1 + i) (omega arith) (omega (arith, size)))) in
      let room = room_behind body h.whole run.0 h.few point.0 run.1 in
      let left : length rest - length rest ≡ 0 = omega arith in
      let small : behind.0 < 2 ^ 64 = (let r = behind.1.room in below_room 10 behind.0 (length rest - length rest) (2 ^ 64) (omega arith) (omega arith)) in
      let x = decimal_read negative behind.0 false 0 (length rest) in
      let power = power_fits (length rest) (omega (arith, size, h.few)) in (
        x,
        short_decimal negative body h.whole run.0 (length rest) behind.0 x run.1
            (short_whole body h.whole run.0 run.1 h.some h.first) point.0 point.1 behind.1 (omega arith) refl (omega arith, power.0, power.1),
      )
]

-- what the numeral says doesn't hang on the octets behind it
alone : (os : List ℕ) (count : ℕ) → PlainNumeral os count → PlainNumeral (take count os) (length (take count os))
alone os count h =
    let size : length (take count os) ≡ count = length-take-le count os h.within in
    let same : (i : ℕ) → i < count → get_or os i 0 ≡ get_or (take count os) i 0 = λ i less. sym (get_or-take count os i 0 less) in
    let upto : h.whole ≤ count = elim h.behind [ inl all ↦ omega arith | inr point ↦ omega (arith, point.0) ] in
    let few = h.few in
    record {
      whole = h.whole;
      some = h.some;
      few = omega (arith, size);
      within = omega arith;
      digits = λ i less. subst IsPlainDigit (same i (omega arith)) (h.digits i less);
      first = λ more. rw (same 0 (omega arith)) at (h.first more);
      behind = elim h.behind [
        | inl all ↦ inl (omega (arith, size, all))
        | inr point ↦ inr (
          omega (arith, size, point.0),
          sym (same h.whole point.0) ∙ point.1,
          λ i from less. let inside : i < count = omega (arith, size, less) in subst IsPlainDigit (same i inside) (point.2 i from inside),
        )
      ];
    }

-- Behind a sign or none such octets are a number.
pub numeral_reads : (negative : Bool) (token body : List ℕ) (count : ℕ) → BeginsWithMinus negative token → token ≡ minus negative ++ take count body
    → PlainNumeral body count → (x : Number) × ReadsNumber token (Ok x)
numeral_reads negative token body count b e h =
    let read = body_reads negative (take count body) (alone body count h) in
    (read.0, number_of_numeral token read.0 (token_answer negative token (take count body) (Ok read.0) b e read.1))

-- Such octets behind a sign or none, of more, are a token.
pub numeral_token : (negative : Bool) (token body : List ℕ) (whole count : ℕ) → BeginsWithMinus negative token → token ≡ minus negative ++ take count body
    → HasNumeral body whole count → PlainToken token whole
unfolding alone
numeral_token negative token body whole count b e h = record {
  negative = negative;
  body = take count body;
  sign = b;
  octets = e;
  numeral = (alone body count h.0, h.1);
}

-- a token has one sign, and one body behind it
minus_alone : (one other : Bool) (token body rest : List ℕ) → BeginsWithMinus one token → token ≡ minus one ++ body → BeginsWithMinus other token
    → token ≡ minus other ++ rest → (one ≡ other) × (body ≡ rest)
minus_alone false false token body rest b e c f = (refl, sym e ∙ f)
minus_alone true true token body rest b e c f = (refl, cc)
minus_alone false true [] body rest b e c f = (let bad : true ≡ false = c in absurd cc)
minus_alone false true (o ∷ os) body rest b e c f = (let bad : false ≡ true = b.1 (c.0 refl) in absurd cc)
minus_alone true false [] body rest b e c f = (let bad : true ≡ false = b in absurd cc)
minus_alone true false (o ∷ os) body rest b e c f = (let bad : false ≡ true = c.1 (b.0 refl) in absurd cc)

-- what stands behind the sign of a token, wherever it is cut
pub body_numeral : (negative : Bool) (token body : List ℕ) (whole : ℕ) → BeginsWithMinus negative token → token ≡ minus negative ++ body
    → PlainToken token whole → HasNumeral body whole (length body)
body_numeral negative token body whole b e h =
    let same = (minus_alone h.negative negative token h.body body h.sign h.octets b e).1 in
    subst (λ (os : List ℕ). HasNumeral os whole (length os)) same h.numeral

-- where the whole part ends, and what stands there
pub whole_ends : (os : List ℕ) (whole : ℕ) → HasNumeral os whole (length os) → whole ≢ length os → (whole < length os) × (get_or os whole 0 ≡ 46)
whole_ends os whole h more = elim h.0.behind [
  | inl all ↦ absurd (more (sym h.1 ∙ all))
  | inr point ↦ (omega (arith, point.0, h.1), ap (λ n. get_or os n 0) (sym h.1) ∙ point.1)
]

-- the octets behind the point are digits
pub fraction_digits : (os : List ℕ) (whole : ℕ) → HasNumeral os whole (length os) → whole < length os → (i : ℕ) → i < length (drop (whole + 1) os)
    → IsPlainDigit (get_or (drop (whole + 1) os) i 0)
fraction_digits os whole h more i less = elim h.0.behind [
  | inl all ↦ absurd (omega (arith, all, h.1))
  | inr point ↦
      let size : length (drop (whole + 1) os) ≡ length os - (whole + 1) = length-drop (whole + 1) os in
      subst IsPlainDigit (sym (get_or-drop (whole + 1) os i 0)) (point.2 (whole + 1 + i) (omega (arith, h.1)) (omega (arith, size, less)))
]

-- digits alone are an int
pub plain_int : (negative : Bool) (token body : List ℕ) (whole value : ℕ) (x : Number) → BeginsWithMinus negative token → token ≡ minus negative ++ body
    → HasNumeral body whole (length body) → PlainRun body 0 whole value → whole ≡ length body → x ≡ Number.Int (signed negative value) → Fits x
    → ReadsNumber token (Ok x)
plain_int negative token body whole value x b e h run all is fits =
    let first : 1 < whole → get_or body 0 0 ≢ 48 = subst (λ (n : ℕ). 1 < n → get_or body 0 0 ≢ 48) h.1 h.0.first in
    number_of_numeral token x (token_answer negative token body (Ok x) b e
    (short_int negative body whole value x run all (short_whole body whole value run (omega (arith, h.0.some, h.1)) first) is fits))

-- digits, a point, and digits or none are a decimal
pub plain_decimal : (negative : Bool) (token body : List ℕ) (whole value count all : ℕ) (x : Number) → BeginsWithMinus negative token
    → token ≡ minus negative ++ body → HasNumeral body whole (length body) → PlainRun body 0 whole value → whole ≢ length body
    → PlainRun (drop (whole + 1) body) value count all → length (drop (whole + 1) body) ≤ count → x ≡ decimal_read negative all false 0 count → Fits x
    → ReadsNumber token (Ok x)
plain_decimal negative token body whole value count all x b e h run more behind end is fits =
    let first : 1 < whole → get_or body 0 0 ≢ 48 = subst (λ (n : ℕ). 1 < n → get_or body 0 0 ≢ 48) h.1 h.0.first in
    let point = whole_ends body whole h more in
    number_of_numeral token x (token_answer negative token body (Ok x) b e
    (short_decimal negative body whole value count all x run (short_whole body whole value run (omega (arith, h.0.some, h.1)) first) point.0 point.1 behind
    end is fits))
