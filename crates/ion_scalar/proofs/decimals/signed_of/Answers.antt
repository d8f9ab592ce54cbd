use Rattle.std.proofs.Common.{◌≡◌, ◌≢◌, ℕ, ◌^◌, ◌≤◌, inl, inr, Bool, true, false, List, [], ◌∷◌, drop, get_or, min, refl, arith}
use Rattle.std.specs.Char.{digit_value}
use Rattle.std.proofs.lemmas.List.{take_rest}
use Rattle.ion_scalar.specs.Names.{IsPlain, IsSigned, number}
use Rattle.ion_scalar.specs.text.laws.OneRun.{first_digit}
use Rattle.ion_scalar.proofs.decimals.signed_of.Goals as goal

-- a `-` and digits
below : (os : List ℕ) (v : ℕ) → get_or os 0 0 ≡ 45 → IsPlain (drop 1 os) × (v ≡ min (number 10 (drop 1 os)) (2 ^ 127))
    → (n : ℕ) × IsSigned os true n × (v ≡ min n (2 ^ 127))
below [] v e h = absurd h.0.0
below (c ∷ os) v e h = (number 10 os, inl (e, refl, h.0, refl), h.1)

-- a `+` and digits
above : (os : List ℕ) (v : ℕ) → get_or os 0 0 ≡ 43 → IsPlain (drop 1 os) × (v ≡ min (number 10 (drop 1 os)) (2 ^ 127))
    → (n : ℕ) × IsSigned os false n × (v ≡ min n (2 ^ 127))
above [] v e h = absurd h.0.0
above (c ∷ os) v e h = (number 10 os, inr (inl (e, refl, h.0, refl)), h.1)

-- digits alone
bare : (os : List ℕ) (v : ℕ) → IsPlain os × (v ≡ min (number 10 os) (2 ^ 127)) → (n : ℕ) × IsSigned os false n × (v ≡ min n (2 ^ 127))
bare [] v h = absurd h.0.0
bare (c ∷ os) v h = (number 10 (c ∷ os), inr (inr (refl, h.0, refl)), h.1)

-- a sign is no digit
no_digit : (c : ℕ) (os : List ℕ) (sign : ℕ) → 10 ≤ digit_value sign → c ≡ sign → IsPlain (c ∷ os) → ⊥
no_digit c os sign h e p = let first : 10 ≤ digit_value c = rw e h in absurd (omega (arith, first_digit 10 c os p.0))

-- behind `-` there must be digits
none_below : (os : List ℕ) → get_or os 0 0 ≡ 45 → (IsPlain (drop 1 os) → ⊥) → (s : Bool) (n : ℕ) → IsSigned os s n → ⊥
none_below [] e none s n h = h
none_below (c ∷ os) e none s n (inl p) = none p.2
none_below (c ∷ os) e none s n (inr (inl p)) = absurd (omega (arith, p.0))
none_below (c ∷ os) e none s n (inr (inr p)) = no_digit c os 45 (omega arith) e p.1

-- behind `+` there must be digits
none_above : (os : List ℕ) → get_or os 0 0 ≡ 43 → (IsPlain (drop 1 os) → ⊥) → (s : Bool) (n : ℕ) → IsSigned os s n → ⊥
none_above [] e none s n h = h
none_above (c ∷ os) e none s n (inl p) = absurd (omega (arith, p.0))
none_above (c ∷ os) e none s n (inr (inl p)) = none p.2
none_above (c ∷ os) e none s n (inr (inr p)) = no_digit c os 43 (omega arith) e p.1

-- with no sign there must be digits
none_bare : (os : List ℕ) → get_or os 0 0 ≢ 45 → get_or os 0 0 ≢ 43 → (IsPlain os → ⊥) → (s : Bool) (n : ℕ) → IsSigned os s n → ⊥
none_bare [] minus plus none s n h = h
none_bare (c ∷ os) minus plus none s n (inl p) = minus p.0
none_bare (c ∷ os) minus plus none s n (inr (inl p)) = plus p.0
none_bare (c ∷ os) minus plus none s n (inr (inr p)) = none p.1

pub returns-in-Some-clause-some : goal.returns-in-Some-clause-some
returns-in-Some-clause-some c =
    let os = c.args.octets.now in
    below os c.in-Some.magnitude c.in-45.is (rw (take_rest os 1) at c.in-Some.ensures.some)

pub returns-in-None-clause-none : goal.returns-in-None-clause-none
returns-in-None-clause-none c =
    let os = c.args.octets.now in
    none_below os c.in-45.is (rw (take_rest os 1) at c.in-None.ensures.none)

pub returns-in-Some-plain_of-clause-some : goal.returns-in-Some-plain_of-clause-some
returns-in-Some-plain_of-clause-some c =
    let os = c.args.octets.now in
    above os c.in-Some-plain_of.magnitude c.in-43.is (rw (take_rest os 1) at c.in-Some-plain_of.ensures.some)

pub returns-in-None-plain_of-clause-none : goal.returns-in-None-plain_of-clause-none
returns-in-None-plain_of-clause-none c =
    let os = c.args.octets.now in
    none_above os c.in-43.is (rw (take_rest os 1) at c.in-None-plain_of.ensures.none)

pub returns-in-Some-plain_of-2-clause-some : goal.returns-in-Some-plain_of-2-clause-some
returns-in-Some-plain_of-2-clause-some c = bare c.args.octets.now c.in-Some-plain_of-2.magnitude c.in-Some-plain_of-2.ensures.some

pub returns-in-None-plain_of-2-clause-none : goal.returns-in-None-plain_of-2-clause-none
returns-in-None-plain_of-2-clause-none c =
    let os = c.args.octets.now in
    none_bare os (λ e. absurd (omega (arith, e))) (λ e. absurd (omega (arith, e))) c.in-None-plain_of-2.ensures.none
