-- What a reader gives that builds what its walk tells.
use Rattle.std.proofs.Common.{◌≡◌, ℕ, ◌+◌, Bool, true, false, List, [], ◌∷◌, ◌++◌, length, take, refl, ap, subst, Ok, Option, Some, None}
use Rattle.ion_binary.specs.Names.{Answers, BinaryReader, Built, Event, Stands, StepsOver, Told, Trace, Value, Walked, WalksOn, awaits, builds, failed, given_at, if_ended, pending, taken, trace, value_in, without_value}
use Rattle.ion_symtab.specs.laws.Builds.{built_on, built_taken, step_said}
use Rattle.ion_binary.specs.laws.reading.Promises.{grows}
use Rattle.ion_binary.specs.laws.reading.Standing.{stood}

-- A step by a walk that told what builds.
module _ (old new : BinaryReader) (piece : List ℕ) (walked : Walked)
    (same : (new.walk.catalog.now ≡ old.walk.catalog.now) × (new.walk.limits ≡ old.walk.limits))
    (leaves : StepsOver taken pending awaits failed old.walk new.walk piece walked.used (if_ended walked.ended))
    (tells : (u : List ℕ) (s : List (Value × ℕ)) (es : List Event) → Told old.walk u s es
    → WalksOn builds Told u s es piece walked.used walked.ended new.walk old.build new.build) where
  answers : (after : BinaryReader) (value : Option Value) → after.walk ≡ new.walk → (value ≡ None → walked.used ≡ length piece)
      → (u : List ℕ) (s : List (Value × ℕ)) → Stands after (u ++ take walked.used piece) (s ++ given_at value (length u + walked.used))
      → Answers (trace old.walk.catalog.now old.walk.limits) u s piece (Ok (record { used = walked.used; value = value }))
  answers after value there all u s h =
      let k = stood after (u ++ take walked.used piece) (s ++ given_at value (length u + walked.used)) h in
      let trace_same : trace after.walk.catalog.now after.walk.limits ≡ trace old.walk.catalog.now old.walk.limits = cc in
      subst (λ (t : List ℕ → Trace). Answers t u s piece (Ok (record { used = walked.used; value = value }))) trace_same
      (step_said (trace after.walk.catalog.now after.walk.limits) (grows after.walk.catalog.now after.walk.limits) u s piece walked.used leaves.used
      value None all tt k.not_refused k.given_so_far tt)

  module _ (goes : walked.ended ≡ false) where
    -- no value ended
    pub goes_stands : (u : List ℕ) (s : List (Value × ℕ)) → Stands old u s → Stands new (u ++ take walked.used piece) (s ++ [])
    goes_stands u s h =
        let P : Bool → Type 0 = λ b. WalksOn builds Told u s h.0 piece walked.used b new.walk old.build new.build in
        built_on Told new.walk old.build new.build u s h.0 piece walked.used h.2 (subst P goes (tells u s h.0 h.1))

    pub goes_answers : (u : List ℕ) (s : List (Value × ℕ)) → Stands old u s
        → Answers (trace old.walk.catalog.now old.walk.limits) u s piece (Ok (record { used = walked.used; value = None }))
    goes_answers u s h = answers new None refl (λ none. leaves.uses_all (ap if_ended goes)) u s (goes_stands u s h)

  module _ (gives : walked.ended ≡ true) (value : Value) (result : Option Value) (left : Built) (is : result ≡ Some value)
      (took : result ≡ value_in new.build.place) (was : left ≡ record new.build { place = without_value new.build.place }) where
    -- one did, and was taken
    pub gives_stands : (u : List ℕ) (s : List (Value × ℕ)) → Stands old u s
        → Stands (record new { build = left }) (u ++ take walked.used piece) (s ++ (value, length u + walked.used) ∷ [])
    gives_stands u s h =
        let P : Bool → Type 0 = λ b. WalksOn builds Told u s h.0 piece walked.used b new.walk old.build new.build in
        built_taken Told new.walk old.build new.build u s h.0 piece walked.used h.2 (subst P gives (tells u s h.0 h.1)) value result left is took was

    pub gives_answers : (u : List ℕ) (s : List (Value × ℕ)) → Stands old u s
        → Answers (trace old.walk.catalog.now old.walk.limits) u s piece (Ok (record { used = walked.used; value = Some value }))
    gives_answers u s h = answers (record new { build = left }) (Some value) refl (λ none. absurd cc) u s (gives_stands u s h)
