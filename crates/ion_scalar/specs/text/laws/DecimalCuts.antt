-- A decimal's octets are cut in one way, and its coefficient is all its digits.
use Rattle.std.proofs.Common.{◌≡◌, ℕ, ◌+◌, ◌*◌, ◌^◌, ◌<◌, ◌≤◌, inl, inr, List, [], ◌∷◌, ◌++◌, length, take, drop, get_or, min, Bool, ℤ, pos, ◌-ℤ◌, refl, sym, ap, subst, ◌∙◌, arith, get_or-take}
use Rattle.std.specs.Char.{digit_value}
use Rattle.std.proofs.Math.Nat.{one-le-pow}
use Rattle.std.proofs.lemmas.List.{take-append-drop, length-take-le}
use Rattle.ion_scalar.specs.Names.{GoesNotOn, IsDecimalBody, IsDigits, IsTail, IsWholePart, Shows, Tail, continued, digits_in, number, positional, positional-append, signed}
use Rattle.ion_scalar.specs.text.laws.DecimalTails.{end_stops, one_rest}
use Rattle.ion_scalar.specs.text.laws.DigitRuns.{cap_more, digits_in-append}
use Rattle.ion_scalar.specs.text.laws.OneRun.{one_run}

-- a whole part is a run of decimal digits
pub whole_digits : (w : List ℕ) → IsWholePart w → IsDigits 10 w
whole_digits w (inl one) = let P : List ℕ → Type 0 = IsDigits 10 in subst P (sym one) (omega arith)
whole_digits w (inr some) = some.0

-- a whole part with no digit going on behind it is the run of digits at the front
pub one_whole : (os w t : List ℕ) (used : ℕ) → IsDigits 10 (take used os) → GoesNotOn 10 (drop used os) → os ≡ w ++ t → IsWholePart w → GoesNotOn 10 t
    → w ≡ take used os
one_whole os w t used d g cut h n = one_run 10 w (take used os) t (drop used os) (omega arith) (whole_digits w h) d n g
    (sym cut ∙ sym (take-append-drop used os))

-- two octets or more that begin with `0` are no whole part
pub no_zero_first : (os w : List ℕ) (used : ℕ) → 1 < used → used ≤ length os → get_or os 0 0 ≡ 48 → w ≡ take used os → IsWholePart w → ⊥
no_zero_first os w used more within zeroth e (inl one) = absurd (omega (arith, length-take-le used os within, ap length e, ap length one))
no_zero_first os w used more within zeroth e (inr some) = some.1 (ap (λ (x : List ℕ). get_or x 0 0) e ∙ (get_or-take used os 0 0 (omega arith) ∙ zeroth))

-- the tail of a decimal or a float doesn't go on with a digit
pub tail_stops : (t f : List ℕ) (float s : Bool) (n : ℕ) → IsTail t f float s n → GoesNotOn 10 t
tail_stops [] f float s n h = tt
tail_stops (c ∷ []) f float s n (inl p) = let P : ℕ → Type 0 = λ x. 10 ≤ digit_value x in subst P (sym p.0) (omega arith)
tail_stops (c ∷ d ∷ os) f float s n (inl p) = (
  let P : ℕ → Type 0 = λ x. 10 ≤ digit_value x in
      subst P (sym p.0) (omega arith),
  λ m. absurd (omega (arith, p.0)),
)
tail_stops (c ∷ os) f float s n (inr p) = end_stops (c ∷ os) float s n (inr (p.1))

-- a whole part's number goes on to that of all digits
pub continued_number : (w f : List ℕ) → continued 10 (number 10 w) f ≡ number 10 (w ++ f)
continued_number w f = sym (ap (positional 10) (digits_in-append w f) ∙ positional-append 10 (digits_in w) (digits_in f))

-- capped at 2^127, a whole part's number goes on to that of all digits
pub coefficient : (w f : List ℕ) (v : ℕ) → v ≡ min (number 10 w) (2 ^ 127) → min (continued 10 v f) (2 ^ 127) ≡ min (number 10 (w ++ f)) (2 ^ 127)
coefficient w f v e =
    ap (λ x. min (x * 10 ^ length (digits_in f) + number 10 f) (2 ^ 127)) e
    ∙ (cap_more (number 10 w) (2 ^ 127) (10 ^ length (digits_in f)) (number 10 f) (one-le-pow (length (digits_in f)) 10 (omega arith))
    ∙ ap (λ x. min x (2 ^ 127)) (continued_number w f))

-- a whole part and a tail are a decimal or a float of all their digits, as the tail's letter says
pub body_is : (os : List ℕ) (used v : ℕ) (t : Tail) → IsWholePart (take used os) → (s : Shows (IsTail (drop used os)) v t)
    → IsDecimalBody t.float os (number 10 (take used os ++ s.fraction)) (signed t.below s.exponent -ℤ pos t.count)
body_is os used v t w s = record {
  whole = take used os;
  tail = drop used os;
  fraction = s.fraction;
  below = t.below;
  written = s.exponent;
  octets = sym (take-append-drop used os);
  is_whole = w;
  is_tail = s.is;
  digits = refl;
  power = ap (λ x. signed t.below s.exponent -ℤ pos x) s.digits;
}

-- the octets of a decimal are cut behind the whole part
pub whole_cut : (float : Bool) (os : List ℕ) (used m : ℕ) (e : ℤ) → ((w t : List ℕ) → os ≡ w ++ t → IsWholePart w → GoesNotOn 10 t → w ≡ take used os)
    → (d : IsDecimalBody float os m e)
    → (d.whole ≡ take used os) × (d.tail ≡ drop used os)
whole_cut float os used m e only d =
    let front = only d.whole d.tail d.octets d.is_whole (tail_stops d.tail d.fraction float d.below d.written d.is_tail) in
    (front, one_rest used os d.whole d.tail front d.octets)

-- octets with no tail behind the run of digits at the front are no decimal and no float
pub no_body : (float : Bool) (os : List ℕ) (used m : ℕ) (e : ℤ) → ((w t : List ℕ) → os ≡ w ++ t → IsWholePart w → GoesNotOn 10 t → w ≡ take used os)
    → ((f : List ℕ) (float s : Bool) (n : ℕ) → IsTail (drop used os) f float s n → ⊥) → IsDecimalBody float os m e → ⊥
no_body float os used m e only none d =
    let P : List ℕ → Type 0 = λ x. IsTail x d.fraction float d.below d.written in
    none d.fraction float d.below d.written (subst P (whole_cut float os used m e only d).1 d.is_tail)
