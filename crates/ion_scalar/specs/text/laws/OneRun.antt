-- No run of digits begins another that goes on no further.
use Rattle.std.proofs.Common.{◌≡◌, ℕ, ◌<◌, ◌≤◌, inl, inr, List, [], ◌∷◌, ◌++◌, length, take, drop, sym, ap, subst, ◌∙◌, arith}
use Rattle.std.specs.Char.{digit_value}
use Rattle.std.proofs.lemmas.List.{take-append-drop, append-nil, length-take-le}
use Rattle.ion_scalar.specs.Names.{BeginsWithNone, GoesNotOn, IsDigits}
use Rattle.ion_scalar.specs.text.laws.DigitRuns.{not_mark}

-- the first octet of a run of digits is a digit
pub first_digit : (base c : ℕ) (os : List ℕ) → IsDigits base (c ∷ os) → digit_value c < base
first_digit base c [] h = h
first_digit base c (d ∷ os) h = h.0

-- a run of digits doesn't begin with an octet that is none
pub none_begins : (base : ℕ) (os : List ℕ) → IsDigits base os → BeginsWithNone base os → ⊥
none_begins base [] h n = h
none_begins base (c ∷ os) h n = absurd (omega (arith, first_digit base c os h))

not_first : (base d : ℕ) (rest : List ℕ) → GoesNotOn base (d ∷ rest) → base ≤ digit_value d
not_first base d [] n = n
not_first base d (e ∷ rest) n = n.0

-- what goes not on behind a run does not begin a longer one
longer : (base c d : ℕ) (os rest : List ℕ) → base ≤ 16 → IsDigits base (c ∷ d ∷ os) → GoesNotOn base (d ∷ os ++ rest) → ⊥
longer base c d [] rest b h n = elim (h.1) [ inl more ↦ absurd (omega (arith, not_first base d rest n)) | inr mark ↦ absurd (mark.1) ]
longer base c d (e ∷ os) rest b h n =
    elim (h.1) [
      | inl more ↦ absurd (omega (arith, first_digit base d (e ∷ os) more, n.0))
      | inr mark ↦ absurd (omega (arith, first_digit base e os mark.1, n.1 mark.0))
    ]

-- two runs of digits at the front of octets, neither of which goes on, are the same
pub one_run : (base : ℕ) (xs ys x y : List ℕ) → base ≤ 16 → IsDigits base xs → IsDigits base ys → GoesNotOn base x → GoesNotOn base y → xs ++ x ≡ ys ++ y
    → xs ≡ ys
one_run base [] ys x y b hx hy nx ny e = absurd hx
one_run base (c ∷ xs) [] x y b hx hy nx ny e = absurd hy
one_run base (c ∷ []) (c' ∷ []) x y b hx hy nx ny e = cc
one_run base (c ∷ []) (c' ∷ d' ∷ ys) x y b hx hy nx ny e =
    let rest : x ≡ d' ∷ ys ++ y = cc in
    absurd (longer base c' d' ys y b hy (subst (GoesNotOn base) rest nx))
one_run base (c ∷ d ∷ xs) (c' ∷ []) x y b hx hy nx ny e =
    let rest : y ≡ d ∷ xs ++ x = cc in
    absurd (longer base c d xs x b hx (subst (GoesNotOn base) rest ny))
one_run base (c ∷ d ∷ xs) (c' ∷ d' ∷ ys) x y b hx hy nx ny e =
    let first : c ≡ c' = cc in
    let second : d ≡ d' = cc in
    elim (hx.1) [
      | inl p ↦ elim (hy.1) [
        | inl q ↦ let same = one_run base (d ∷ xs) (d' ∷ ys) x y b p q nx ny cc in cc
        | inr q ↦ absurd (not_mark base d b (first_digit base d xs p) (second ∙ q.0))
      ]
      | inr p ↦ elim (hy.1) [
        | inl q ↦ absurd (not_mark base d' b (first_digit base d' ys q) (sym second ∙ p.0))
        | inr q ↦ let same = one_run base xs ys x y b p.1 q.1 nx ny cc in cc
      ]
    ]

-- a run that is all
pub whole_run : (base used : ℕ) (os : List ℕ) → base ≤ 16 → IsDigits base (take used os) → GoesNotOn base (drop used os) → IsDigits base os → take used os ≡ os
whole_run base used os b h n all = one_run base (take used os) os (drop used os) [] b h all n tt (take-append-drop used os ∙ sym (append-nil os))

-- a run that doesn't go on is all the octets, where these are digits as a whole
pub all_used : (base used : ℕ) (os : List ℕ) → base ≤ 16 → used ≤ length os → IsDigits base (take used os) → GoesNotOn base (drop used os) → IsDigits base os
    → used ≡ length os
all_used base used os b within h n all =
    let whole = whole_run base used os b h n all in
    omega (arith, ap length whole, length-take-le used os within)
