-- Runs of digits, one digit at a time.
use Rattle.std.proofs.Common.{◌≡◌, ◌≢◌, ℕ, zero, suc, ◌+◌, ◌*◌, ◌^◌, ◌<◌, ◌≤◌, ◌⊎◌, inl, inr, ◌==◌, not, min, List, [], ◌∷◌, ◌++◌, length, map, take, drop, get_or, refl, sym, ap, subst, ◌∙◌, arith, append_assoc, length-append}
use Rattle.std.specs.Char.{digit_value}
use Rattle.std.specs.List.{filter}
use Rattle.std.proofs.lemmas.Bool.{ne_eqb, cases_lt}
use Rattle.std.proofs.lemmas.List.{take_more, drop_more, drop_all, map-append}
use Rattle.std.proofs.lemmas.List.Elements.{filter-append}
use Rattle.std.proofs.Math.Nat.{mul-le-mul_left, mul-le-mul_right}
use Rattle.ion_scalar.specs.Names.{BeginsWithNone, GoesNotOn, IsDigits, continued, digits_in, positional, positional_push}

digits_more : (base : ℕ) (more : List ℕ) → ((a : ℕ) → digit_value a < base → IsDigits base (a ∷ more)) → (os : List ℕ) → IsDigits base os
    → IsDigits base (os ++ more)
digits_more base more last [] h = absurd h
digits_more base more last (a ∷ []) h = last a h
digits_more base more last (a ∷ b ∷ os) h = (
  h.0,
  elim (h.1) [
    | inl on ↦ inl (digits_more base more last (b ∷ os) on)
    | inr skip ↦ inr (skip.0, digits_more base more last os skip.1)
  ],
)

-- a run of digits with a digit more is a run of digits
pub digits_push : (base : ℕ) (os : List ℕ) (c : ℕ) → IsDigits base os → digit_value c < base → IsDigits base (os ++ c ∷ [])
digits_push base os c h d = digits_more base (c ∷ []) (λ a first. (first, inl d)) os h

pub digits_skip : (base : ℕ) (os : List ℕ) (c : ℕ) → IsDigits base os → digit_value c < base → IsDigits base (os ++ 95 ∷ c ∷ [])
digits_skip base os c h d = digits_more base (95 ∷ c ∷ []) (λ a first. (first, inr (refl, d))) os h

-- what stands for no digit is left out
pub digits_in-append : (xs ys : List ℕ) → digits_in (xs ++ ys) ≡ digits_in xs ++ digits_in ys
digits_in-append xs ys = ap (map digit_value) (filter-append (λ c. not (c == 95)) xs ys)
    ∙ map-append digit_value (filter (λ c. not (c == 95)) xs) (filter (λ c. not (c == 95)) ys)

-- a digit is no `_`
pub not_mark : (base c : ℕ) → base ≤ 16 → digit_value c < base → c ≢ 95
not_mark base c h d e = let P : ℕ → Type 0 = λ x. digit_value x < base in absurd (omega (arith, subst P e d))

-- one digit alone has its value as the only one
pub digits_in_one : (base c : ℕ) → base ≤ 16 → digit_value c < base → digits_in (c ∷ []) ≡ digit_value c ∷ []
digits_in_one base c h d = rw (ne_eqb c 95 (not_mark base c h d)) refl

-- a digit behind has its value behind those of the others
pub digits_in_push : (base c : ℕ) (os : List ℕ) → base ≤ 16 → digit_value c < base → digits_in (os ++ c ∷ []) ≡ digits_in os ++ digit_value c ∷ []
digits_in_push base c os h d = digits_in-append os (c ∷ []) ∙ ap (λ (x : List ℕ). digits_in os ++ x) (digits_in_one base c h d)

pub digits_in_skip : (base c : ℕ) (os : List ℕ) → base ≤ 16 → digit_value c < base → digits_in (os ++ 95 ∷ c ∷ []) ≡ digits_in os ++ digit_value c ∷ []
digits_in_skip base c os h d = digits_in-append os (95 ∷ c ∷ []) ∙ ap (λ (x : List ℕ). digits_in os ++ x) (digits_in_one base c h d)

pub continued_more : (base before d : ℕ) (os longer : List ℕ) → digits_in longer ≡ digits_in os ++ d ∷ [] → continued base before longer
    ≡ continued base before os * base + d
continued_more base before d os longer e =
    ap (λ (ds : List ℕ). positional base (before ∷ ds)) e ∙ positional_push base (before ∷ digits_in os) d

-- the cap absorbs
pub cap_more : (v cap base d : ℕ) → 0 < base → min (min v cap * base + d) cap ≡ min (v * base + d) cap
cap_more v cap base d h =
    elim (cases_lt v cap) [
      | inl lt ↦ let e : min v cap ≡ v = omega arith in rw e refl
      | inr le ↦
          let e : min v cap ≡ cap = omega arith in
          let k : cap * 1 ≤ cap * base = mul-le-mul_left cap h in
          let m : cap * base ≤ v * base = mul-le-mul_right base le in
          rw e (omega arith)
    ]

-- what the run so far says, of its octets
pub record Run (base before : ℕ) (os : List ℕ) (value count : ℕ) : Type 0 where
  pub counts : value ≡ min (continued base before os) (2 ^ 127)
  pub many : count ≡ length (digits_in os)

-- a digit more goes on with the run: its number, capped at 2^127, and the count of its digits
pub Run_more : (base before d value count : ℕ) (os longer : List ℕ) → 0 < base → digits_in longer ≡ digits_in os ++ d ∷ [] → Run base before os value count
    → Run base before longer (min (value * base + d) (2 ^ 127)) (count + 1)
Run_more base before d value count os longer h e r =
    record {
      counts = rw r.counts (cap_more (continued base before os) (2 ^ 127) base d h
          ∙ ap (λ x. min x (2 ^ 127)) (sym (continued_more base before d os longer e)));
      many = omega (arith, r.many, ap length e, length-append (digits_in os) (d ∷ []));
    }

-- a place behind used octets: directly, where no `_` stands, or behind a `_`
abbrev pub Place : List ℕ → ℕ → ℕ → Type 0
Place os used at =
    ((at ≡ used) × (0 < at → at < length os → get_or os at 0 ≢ 95))
    ⊎ ((at ≡ used + 1) × (0 < used) × (used < length os) × (get_or os used 0 ≡ 95))

digits_next : (base used : ℕ) (os : List ℕ) (c : ℕ) → (0 < used → IsDigits base (take used os)) → digit_value c < base → IsDigits base (take used os ++ c ∷ [])
digits_next base zero os c h d = d
digits_next base (suc k) os c h d = digits_push base (take (suc k) os) c (h (omega arith)) d

-- the octets with one digit more
pub run_step : (base used at : ℕ) (os : List ℕ) → base ≤ 16 → Place os used at → (0 < used → IsDigits base (take used os)) → at < length os
    → digit_value (get_or os at 0) < base
    → IsDigits base (take (at + 1) os) × (digits_in (take (at + 1) os) ≡ digits_in (take used os) ++ digit_value (get_or os at 0) ∷ [])
run_step base used at os b (inl here) ds h d =
    let c = get_or os at 0 in
    let e : take (at + 1) os ≡ take used os ++ c ∷ [] = take_more os at 0 h ∙ ap (λ n. take n os ++ c ∷ []) here.0 in
    rw e (digits_next base used os c ds d, digits_in_push base c (take used os) b d)
run_step base used at os b (inr marked) ds h d =
    let c = get_or os at 0 in
    let e : take (at + 1) os ≡ take used os ++ 95 ∷ c ∷ [] =
    take_more os at 0 h
    ∙ (ap (λ n. take n os ++ c ∷ []) marked.0
    ∙ (ap (λ (x : List ℕ). x ++ c ∷ []) (take_more os used 0 marked.2 ∙ ap (λ n. take used os ++ n ∷ []) marked.3)
    ∙ append_assoc (take used os) (95 ∷ []) (c ∷ []))) in
    rw e (digits_skip base (take used os) c (ds marked.1) d, digits_in_skip base c (take used os) b d)

stops_here : (base c : ℕ) (rest : List ℕ) → base ≤ digit_value c → c ≢ 95 → GoesNotOn base (c ∷ rest)
stops_here base c [] d n = d
stops_here base c (e ∷ rest) d n = (d, λ is. absurd (n is))

stops_marked : (base : ℕ) (rest : List ℕ) → base ≤ 16 → BeginsWithNone base rest → GoesNotOn base (95 ∷ rest)
stops_marked base [] b h = omega arith
stops_marked base (e ∷ rest) b h = (omega arith, λ _. h)

begins : (base at : ℕ) (os : List ℕ) → (at < length os → base ≤ digit_value (get_or os at 0)) → BeginsWithNone base (drop at os)
begins base at os h =
    elim (cases_lt at (length os)) [
      | inl lt ↦ rw (drop_more os at 0 lt) (h lt)
      | inr le ↦ rw (drop_all at os le) tt
    ]

-- where the next place has no digit, the octets behind the run don't go on with one
pub run_end : (base used at : ℕ) (os : List ℕ) → base ≤ 16 → Place os used at → (at < length os → base ≤ digit_value (get_or os at 0))
    → BeginsWithNone base (drop used os) × (0 < used → GoesNotOn base (drop used os))
run_end base used at os b (inl here) h =
    let none : used < length os → base ≤ digit_value (get_or os used 0) = subst (λ (n : ℕ). n < length os → base ≤ digit_value (get_or os n 0)) here.0 h in
    let mark : 0 < used → used < length os → get_or os used 0 ≢ 95 = subst (λ (n : ℕ). 0 < n → n < length os → get_or os n 0 ≢ 95) here.0 here.1 in (
      begins base used os none,
      λ some. elim (cases_lt used (length os)) [
        | inl lt ↦ rw (drop_more os used 0 lt) (stops_here base (get_or os used 0) (drop (used + 1) os) (none lt) (mark some lt))
        | inr le ↦ rw (drop_all used os le) tt
      ],
    )
run_end base used at os b (inr marked) h =
    let none : used + 1 < length os → base ≤ digit_value (get_or os (used + 1) 0) =
    subst (λ (n : ℕ). n < length os → base ≤ digit_value (get_or os n 0)) marked.0 h in
    let e : drop used os ≡ 95 ∷ drop (used + 1) os = drop_more os used 0 marked.2 ∙ ap (λ c. c ∷ drop (used + 1) os) marked.3 in
    (rw e (omega arith), λ some. rw e (stops_marked base (drop (used + 1) os) b (begins base (used + 1) os none)))
