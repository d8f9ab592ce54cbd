-- What a step answers that builds what a walk tells.
use Rattle.std.proofs.Common.{◌≡◌, ℕ, ◌+◌, ◌≤◌, List, ◌∷◌, ◌++◌, length, take, drop, Ok, Option, None, IfSome, subst}
use Rattle.ion_text.specs.Names.{Answers, Event, TextWalk, Told, Trace, Value, given_at, grows, trace}
use Rattle.ion_symtab.specs.laws.Builds.{step_said}
use Rattle.ion_text.specs.laws.reading.Tells.{walk_told}

pub step_answers : (old new : TextWalk) (u : List ℕ) (s : List (Value × ℕ)) (es : List Event) (piece : List ℕ) (used : ℕ) (value : Option Value)
    → (new.catalog.now ≡ old.catalog.now) × (new.limits ≡ old.limits) → used ≤ length piece → (value ≡ None → used ≡ length piece)
    → IfSome new.awaited (λ octet. (rest : List ℕ) × (drop used piece ≡ octet ∷ rest))
    → Told new (u ++ take used piece) (s ++ given_at value (length u + used)) es
    → Answers (trace old.catalog.now old.limits) u s piece (Ok (record { used = used; value = value }))
step_answers old new u s es piece used value setting within all awaited told =
    let k = walk_told new (u ++ take used piece) (s ++ given_at value (length u + used)) es told in
    let same : trace new.catalog.now new.limits ≡ trace old.catalog.now old.limits = cc in
    let P : (List ℕ → Trace) → Type 0 = λ t. Answers t u s piece (Ok (record { used = used; value = value })) in
    subst P same
    (step_said (trace new.catalog.now new.limits) (grows new.catalog.now new.limits) u s piece used within value new.awaited all awaited k.not_refused
    k.given_so_far k.given_with_next)
