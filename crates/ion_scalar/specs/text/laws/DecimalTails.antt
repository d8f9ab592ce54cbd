-- What stands behind the whole part of a decimal is cut in one way.
use Rattle.std.proofs.Common.{◌≡◌, ◌≢◌, ℕ, zero, suc, ◌<◌, ◌≤◌, ◌⊎◌, inl, inr, List, [], ◌∷◌, ◌++◌, take, drop, get_or, Bool, true, false, refl, sym, ap, subst, ◌∙◌, arith}
use Rattle.std.specs.Char.{digit_value}
use Rattle.std.proofs.lemmas.List.{take-append-drop, append_cancel_left}
use Rattle.ion_scalar.specs.Names.{BeginsWithNone, GoesNotOn, IsDigits, IsEnd, IsExponent, IsFraction, IsLetter, IsTail}
use Rattle.ion_scalar.specs.text.laws.OneRun.{first_digit, one_run}

-- a letter of an exponent is no digit, no `_` and no point
pub letter : (float : Bool) (c : ℕ) → IsLetter float c → (10 ≤ digit_value c) × (c ≢ 95) × (c ≢ 46)
letter false c (inl e) = let P : ℕ → Type 0 = λ x. (10 ≤ digit_value x) × (x ≢ 95) × (x ≢ 46) in
    subst P (sym e) (omega arith, λ h. absurd (omega arith), λ h. absurd (omega arith))
letter false c (inr e) = let P : ℕ → Type 0 = λ x. (10 ≤ digit_value x) × (x ≢ 95) × (x ≢ 46) in
    subst P (sym e) (omega arith, λ h. absurd (omega arith), λ h. absurd (omega arith))
letter true c (inl e) = let P : ℕ → Type 0 = λ x. (10 ≤ digit_value x) × (x ≢ 95) × (x ≢ 46) in
    subst P (sym e) (omega arith, λ h. absurd (omega arith), λ h. absurd (omega arith))
letter true c (inr e) = let P : ℕ → Type 0 = λ x. (10 ≤ digit_value x) × (x ≢ 95) × (x ≢ 46) in
    subst P (sym e) (omega arith, λ h. absurd (omega arith), λ h. absurd (omega arith))

-- an end begins with no digit
pub end_stops : (rest : List ℕ) (float s : Bool) (n : ℕ) → IsEnd rest float s n → GoesNotOn 10 rest
end_stops [] float s n e = tt
end_stops (c ∷ []) float s n (inr e) = (letter float c (e.0)).0
end_stops (c ∷ d ∷ os) float s n (inr e) = let l = letter float c (e.0) in (l.0, λ m. absurd (l.1 m))
end_stops _ float s n (inl e) = cc

-- digits in front of what begins with none
front : (base used : ℕ) (os : List ℕ) → IsDigits base (take used os) → BeginsWithNone base os → ⊥
front base (suc k) (c ∷ os) h n = absurd (omega (arith, first_digit base c (take k os) h))
front base _ _ h n = h

-- what doesn't go on with digits begins with none
pub none_first : (base : ℕ) (os : List ℕ) → GoesNotOn base os → BeginsWithNone base os
none_first base [] h = tt
none_first base (c ∷ []) h = h
none_first base (c ∷ d ∷ os) h = h.0

-- what begins with no digit doesn't begin with a run of digits
pub begins_front : (base : ℕ) (f rest : List ℕ) → IsDigits base f → BeginsWithNone base (f ++ rest) → ⊥
begins_front base [] rest h n = h
begins_front base (c ∷ f) rest h n = absurd (omega (arith, first_digit base c f h))

-- one cut
pub one_cut : (used : ℕ) (os f rest : List ℕ) (float s : Bool) (n : ℕ) → (0 < used → IsDigits 10 (take used os)) → BeginsWithNone 10 (drop used os)
    → (0 < used → GoesNotOn 10 (drop used os))
    → (f ≡ []) ⊎ IsDigits 10 f → IsEnd rest float s n → os ≡ f ++ rest → f ≡ take used os
one_cut zero os f rest float s n h b g (inl none) e cut = none
one_cut zero os f rest float s n h b g (inr digits) e cut =
    absurd (begins_front 10 f rest digits (let P : List ℕ → Type 0 = BeginsWithNone 10 in subst P cut b))
one_cut (suc k) os f rest float s n h b g (inl none) e cut =
    let same : os ≡ rest = cut ∙ ap (λ (x : List ℕ). x ++ rest) none in
    absurd (front 10 (suc k) os (h (omega arith)) (let P : List ℕ → Type 0 = BeginsWithNone 10 in
    subst P (sym same) (none_first 10 rest (end_stops rest float s n e))))
one_cut (suc k) os f rest float s n h b g (inr digits) e cut =
    one_run 10 f (take (suc k) os) rest (drop (suc k) os) (omega arith) digits (h (omega arith)) (end_stops rest float s n e) (g (omega arith))
    (sym cut ∙ sym (take-append-drop (suc k) os))

-- where the fronts of two cuts are the same, so are the rests
pub one_rest : (used : ℕ) (os f rest : List ℕ) → f ≡ take used os → os ≡ f ++ rest → rest ≡ drop used os
one_rest used os f rest e cut = append_cancel_left (take used os) rest (drop used os)
    (sym (ap (λ (x : List ℕ). x ++ rest) e) ∙ (sym cut ∙ sym (take-append-drop used os)))

-- behind a point the digits at the front, or none, and an end are a fraction
pub fraction_is : (os : List ℕ) (used : ℕ) (float s : Bool) (n : ℕ) → (0 < used → IsDigits 10 (take used os)) → IsEnd (drop used os) float s n
    → IsFraction os (take used os) float s n
fraction_is os zero float s n h e = record { rest = os; cut = refl; digits = inl refl; exponent = e }
fraction_is os (suc k) float s n h e = record { rest = drop (suc k) os; cut = sym (take-append-drop (suc k) os); digits = inr (h (omega arith)); exponent = e }

-- behind a point octets with no end behind the run of digits at the front are no fraction
pub no_fraction : (os : List ℕ) (used : ℕ) (f : List ℕ) (float s : Bool) (n : ℕ) → (0 < used → IsDigits 10 (take used os)) → BeginsWithNone 10 (drop used os)
    → (0 < used → GoesNotOn 10 (drop used os))
    → ((float s : Bool) (n : ℕ) → IsEnd (drop used os) float s n → ⊥) → IsFraction os f float s n → ⊥
no_fraction os used f float s n h b g ends p =
    let same = one_rest used os f p.rest (one_cut used os f p.rest float s n h b g p.digits p.exponent p.cut) p.cut in
    ends float s n (let P : List ℕ → Type 0 = λ x. IsEnd x float s n in subst P same p.exponent)

-- a point with no fraction behind it begins no tail
pub no_tail_pointed : (tail f : List ℕ) (float s : Bool) (n : ℕ) → get_or tail 0 0 ≡ 46
    → ((f : List ℕ) (float s : Bool) (n : ℕ) → IsFraction (drop 1 tail) f float s n → ⊥) → IsTail tail f float s n → ⊥
no_tail_pointed [] f float s n dot none h = h
no_tail_pointed (c ∷ os) f float s n dot none (inl p) = none f float s n p.1
no_tail_pointed (c ∷ os) f float s n dot none (inr p) = absurd ((letter float c (p.1.0)).2 dot)

-- octets that begin neither with a point nor as an exponent are no tail
pub no_tail : (tail f : List ℕ) (float s : Bool) (n : ℕ) → get_or tail 0 0 ≢ 46 → ((float s : Bool) (n : ℕ) → IsExponent tail float s n → ⊥)
    → IsTail tail f float s n → ⊥
no_tail [] f float s n dot none h = h
no_tail (c ∷ os) f float s n dot none (inl p) = dot p.0
no_tail (c ∷ os) f float s n dot none (inr p) = none float s n p.1
