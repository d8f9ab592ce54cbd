-- How octets in memory show that an int or a decimal of plain digits stands whole at their front.
use Rattle.std.proofs.Common.{◌≡◌, ◌≢◌, inl, inr, ℕ, ◌+◌, ◌-◌, ◌<◌, ◌≤◌, zero, suc, Bool, true, false, List, [], ◌∷◌, ◌++◌, length, take, drop, get_or, refl, sym, ap, ◌∙◌, subst, arith, length-drop}
use Rattle.std.specs.Prelude.{◌==◌, ◌||◌, not, slice_index, Ok}
use Rattle.std.specs.List.{take_while, prefix_len}
use Rattle.std.proofs.lemmas.Bool.{cases_order}
use Rattle.std.proofs.lemmas.Bool.Decides.{nat_tests}
use Rattle.std.proofs.lemmas.List.{get_or-drop}
use Rattle.std.proofs.lemmas.List.Folds.{length-prefix_len}
use Rattle.std.proofs.lemmas.List.Sums.{prefix_len_passes, prefix_len_is}
use Rattle.ion_tokens.specs.Names.{BeginsWithMinus, IsFound, Number, Place, ReadsNumber, Rest, TokenKind, is_digit, is_name, is_numeric, is_stop, minus, slash}
use Rattle.ion_scalar.specs.text.PlainNumerals.{HasNumeral, IsPlainDigit, PlainNumeral, PlainToken}
use Rattle.ion_scalar.specs.text.laws.PlainNumerals.{numeral_reads, numeral_token}
use Rattle.ion_tokens.proofs.runs.WholeTokens.{front_length, front_within, number_found}

plain_digit : (o : ℕ) → is_digit o ≡ true → IsPlainDigit o
plain_digit o h = (grind (arith, nat_tests), grind (arith, nat_tests))

numeric_digit : (o : ℕ) → IsPlainDigit o → is_numeric o ≡ true
numeric_digit o h = grind (arith, nat_tests)

-- each octet that was counted is a digit
each_digit : (os : List ℕ) (n : ℕ) → n ≡ length (take_while is_digit os) → (i : ℕ) → i < n → IsPlainDigit (get_or os i 0)
each_digit os n e i less = plain_digit _ (prefix_len_passes is_digit os i 0 (omega (arith, front_length is_digit os n e)))

-- digits alone
pub int_there : (os : List ℕ) (whole : ℕ) → whole ≡ length (take_while is_digit os) → 0 < whole → whole ≤ 19 → (1 < whole → get_or os 0 0 ≢ 48)
    → HasNumeral os whole whole
int_there os whole e some few first = (
  record {
    whole = whole;
    some = some;
    few = few;
    within = front_within is_digit os whole e;
    digits = each_digit os whole e;
    first = first;
    behind = inl refl;
  },
  refl,
)

-- digits, a point, and digits or none
pub point_there : (os : List ℕ) (whole fraction : ℕ) → whole ≡ length (take_while is_digit os) → 0 < whole → (1 < whole → get_or os 0 0 ≢ 48)
    → whole < length os → get_or os whole 0 ≡ 46 → fraction ≡ length (take_while is_digit (drop (whole + 1) os)) → whole + 1 + fraction ≤ 19
    → HasNumeral os whole (whole + 1 + fraction)
point_there os whole fraction e some first more point f few =
    let rest = drop (whole + 1) os in
    let is : PlainNumeral os (whole + 1 + fraction) = record {
      whole = whole;
      some = some;
      few = few;
      within = omega (arith, front_within is_digit rest fraction f, length-drop (whole + 1) os);
      digits = each_digit os whole e;
      first = first;
      behind = inr (
        omega arith,
        point,
        λ i from less.
            let there : (whole + 1) + (i - (whole + 1)) ≡ i = omega arith in
            subst (λ k. IsPlainDigit (get_or os k 0)) there
            (subst IsPlainDigit (get_or-drop (whole + 1) os (i - (whole + 1)) 0) (each_digit rest fraction f (i - (whole + 1)) (omega arith))),
      );
    } in
    (is, refl)

-- a number goes on with each octet of a numeral
goes_on : (os : List ℕ) (count : ℕ) → PlainNumeral os count → (i : ℕ) → i < count → is_numeric (get_or os i 0) ≡ true
goes_on os count h i less = elim h.behind [
  | inl all ↦ numeric_digit _ (h.digits i (omega arith))
  | inr point ↦ elim (cases_order i h.whole) [
    | inl here ↦ ap (λ k. is_numeric (get_or os k 0)) here ∙ ap is_numeric point.1
    | inr (inl before) ↦ numeric_digit _ (h.digits i before)
    | inr (inr behind) ↦ numeric_digit _ (point.2 i behind less)
  ]
]

stop_no_number : (o : ℕ) → is_stop o ≡ true → is_numeric o ≡ false
stop_no_number o h = ap (λ b. not (b || (o == slash))) h

-- that many octets are of a number
run_is : (os : List ℕ) (count : ℕ) → PlainNumeral os count → is_stop (slice_index os count) ≡ true → prefix_len is_numeric os ≡ count
run_is os count h stop = prefix_len_is is_numeric os count 0 h.within (goes_on os count h) (λ _. stop_no_number (slice_index os count) stop)

-- Octets begin with so many of a number, and the octet behind them shows its end.
pub record WholeNumeral (octets : List ℕ) (whole n : ℕ) : Type 0 where
  pub within : n < length octets
  pub reads : (x : Number) × ReadsNumber (take n octets) (Ok x)
  pub digits : PlainToken (take n octets) whole
  pub found : (p : Place) (r : Rest) → is_name p ≡ false → IsFound p r octets TokenKind.Number (take n octets) n true

no_slash : (o : ℕ) → is_stop o ≡ true → o ≢ 47
no_slash o h e = let f : is_stop 47 ≡ true = subst (λ x. is_stop x ≡ true) e h in cc

-- the first is a digit
first_digit : (os : List ℕ) (count : ℕ) → PlainNumeral os count → (0 < count) × (is_digit (slice_index os 0) ≡ true)
first_digit os count h =
    let some = h.some in
    (elim h.behind [ inl all ↦ omega arith | inr point ↦ omega (arith, point.0) ], grind (arith, nat_tests, (h.digits 0 h.some)))

begins_same : (negative : Bool) (os : List ℕ) (n : ℕ) → 0 < n → BeginsWithMinus negative os → BeginsWithMinus negative (take n os)
begins_same negative os zero some b = absurd (omega arith)
begins_same negative [] (suc k) some b = b
begins_same negative (o ∷ os) (suc k) some b = b

unsigned : (os : List ℕ) (whole count : ℕ) → BeginsWithMinus false os → HasNumeral os whole count → count < length os
    → is_stop (slice_index os count) ≡ true → WholeNumeral os whole count
unsigned os whole count b h more stop =
    let first = first_digit os count h.0 in
    let begins = begins_same false os count first.0 b in
    record {
      within = more;
      reads = numeral_reads false (take count os) os count begins refl h.0;
      digits = numeral_token false (take count os) os whole count begins refl h;
      found = number_found os count (omega (arith, first.0)) (inl first.1) (sym (length-prefix_len is_numeric os ∙ run_is os count h.0 stop)) more
          (no_slash _ stop);
    }

no_minus : (os : List ℕ) → IsPlainDigit (get_or os 0 0) → BeginsWithMinus false os
no_minus [] d = refl
no_minus (o ∷ os) d = ((λ t. absurd cc), (λ (e : o ≡ 45). let low = d.0 in absurd (omega arith)))

-- So are digits alone, without a sign.
pub int_found : (os : List ℕ) (whole : ℕ) → whole ≡ length (take_while is_digit os) → 0 < whole → whole ≤ 19 → (1 < whole → get_or os 0 0 ≢ 48)
    → whole < length os → is_stop (slice_index os whole) ≡ true → WholeNumeral os whole whole
int_found os whole e some few first more stop =
    unsigned os whole whole (no_minus os (each_digit os whole e 0 some)) (int_there os whole e some few first) more stop

signed : (os : List ℕ) (whole count : ℕ) → HasNumeral os whole count → count < length os → is_stop (slice_index os count) ≡ true
    → WholeNumeral (45 ∷ os) whole (suc count)
signed os whole count h more stop =
    let first = first_digit os count h.0 in
    let one : prefix_len is_numeric (45 ∷ os) ≡ 1 + prefix_len is_numeric os = refl in
    let size : prefix_len is_numeric (45 ∷ os) ≡ suc count = omega (arith, one, run_is os count h.0 stop) in
    record {
      within = omega arith;
      reads = numeral_reads true (45 ∷ take count os) os count ((λ _. refl), (λ _. refl)) refl h.0;
      digits = numeral_token true (45 ∷ take count os) os whole count ((λ _. refl), (λ _. refl)) refl h;
      found = number_found (45 ∷ os) (suc count) (omega (arith, first.0)) (inr (refl, first.1))
          (sym (length-prefix_len is_numeric (45 ∷ os) ∙ size)) (omega arith) (no_slash _ stop);
    }

-- A numeral behind a sign or none, before a stop character, is a number.
pub whole_numeral : (negative : Bool) (octets body : List ℕ) (whole count n : ℕ) → BeginsWithMinus negative octets → octets ≡ minus negative ++ body
    → HasNumeral body whole count → count < length body → is_stop (slice_index body count) ≡ true → n ≡ length octets - length body + count
    → WholeNumeral octets whole n
whole_numeral false octets body whole count n b e h more stop size =
    let all : length octets ≡ length body = ap (λ (l : List ℕ). length l) e in
    let same : count ≡ n = omega arith in
    let P : List ℕ → Type 0 = λ l. WholeNumeral l whole n in
    subst P (sym e) (subst (WholeNumeral body whole) same (unsigned body whole count (subst (BeginsWithMinus false) e b) h more stop))
whole_numeral true octets body whole count n b e h more stop size =
    let all : length octets ≡ suc (length body) = ap (λ (l : List ℕ). length l) e in
    let same : suc count ≡ n = omega arith in
    let P : List ℕ → Type 0 = λ l. WholeNumeral l whole n in
    subst P (sym e) (subst (WholeNumeral (45 ∷ body) whole) same (signed body whole count h more stop))
