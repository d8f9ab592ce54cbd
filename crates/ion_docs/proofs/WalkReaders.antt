-- What a step answers that builds what a walk tells.
use Rattle.std.proofs.Common.{◌≡◌, ℕ, ◌+◌, List, ◌++◌, length, take, subst, Result, Ok, Err, Option, IfOk, IfErr}
use Rattle.ion_docs.specs.Names.{Answers, Built, DocWalk, HasBuilt, Refusal, StepsOver, Trace, Value, awaits_of, chosen, failed_of, given_at, pending_of, taken_of}
use Rattle.ion_symtab.specs.declared.items.Step.{Step}
use Rattle.ion_symtab.specs.laws.Builds.{step_said}
use Rattle.ion_docs.specs.laws.Documents.{promised}
use Rattle.ion_docs.specs.laws.Walks.{has_told}

same_trace : (new old : DocWalk) → new.catalog.now ≡ old.catalog.now → new.limits ≡ old.limits
    → chosen new.catalog.now new.limits ≡ chosen old.catalog.now old.limits
same_trace new old under within = cc

pub built_answers : (old new : DocWalk) (before after : Built) (piece : List ℕ) (result : Result Step Refusal)
    → (new.catalog.now ≡ old.catalog.now) × (new.limits ≡ old.limits)
    → IfOk result (λ step. StepsOver taken_of pending_of awaits_of failed_of old new piece step.used step.value)
    → IfOk result (λ step. (u : List ℕ) (s : List (Value × ℕ)) → HasBuilt old before u s
    → HasBuilt new after (u ++ take step.used piece) (s ++ given_at step.value (length u + step.used)))
    → IfErr result (λ refusal. (u : List ℕ) (s : List (Value × ℕ)) → HasBuilt old before u s
    → Answers (chosen old.catalog.now old.limits) u s piece (Err refusal))
    → (u : List ℕ) (s : List (Value × ℕ)) → HasBuilt old before u s → Answers (chosen old.catalog.now old.limits) u s piece result
built_answers old new before after piece (Ok step) same leaves stands answers u s h =
    let there = stands u s h in
    let told = has_told new (u ++ take step.used piece) (s ++ given_at step.value (length u + step.used)) there.0 there.1 in
    let P : (List ℕ → Trace) → Type 0 = λ t. Answers t u s piece (Ok step) in
    subst P (same_trace new old same.0 same.1)
    (step_said (chosen new.catalog.now new.limits) (λ v w. (promised new.catalog.now new.limits v).settled w) u s piece step.used leaves.used step.value
    (awaits_of new) leaves.uses_all leaves.awaited told.not_refused told.given_so_far told.given_with_next)
built_answers old new before after piece (Err refusal) same leaves stands answers u s h = answers u s h
