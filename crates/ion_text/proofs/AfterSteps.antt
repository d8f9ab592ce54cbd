-- What is so behind a step.
use Rattle.std.proofs.Common.{◌≡◌, ℕ, zero, suc, ◌+◌, ◌<◌, ◌≤◌, true, List, [], ◌∷◌, ◌++◌, length, take, drop, Option, Some, None, Result, Ok, Err, refl, ap, sym, ◌∙◌, arith, length-append, append-nil, append_assoc}
use Rattle.std.specs.Option.{is_some}
use Rattle.std.proofs.lemmas.Grind.{common_steps}
use Rattle.std.proofs.lemmas.List.{length-take-le, take-append-drop}
use Rattle.ion_text.specs.Names.{Advances, Answers, Catalog, IsFront, Limits, Ran, Refusal, Run, State, Step, StopsBefore, Value, begun, eats, given_at, grows, led, once_more, resumed, run, run-append, run_on, then_run, trace, trace_of}
use Rattle.ion_text.specs.machine.Progress.{BeginsWith}
use Rattle.ion_text.specs.laws.reading.Stands.{behind, further}

module _ (g : Catalog) (l : Limits) where
  begins_take : (awaited : Option ℕ) (piece : List ℕ) (used : ℕ) → BeginsWith awaited piece → (is_some awaited ≡ true → 0 < used)
      → BeginsWith awaited (take used piece)
  begins_take None piece used h some = tt
  begins_take (Some o) piece zero h some = absurd (omega (arith, some refl))
  begins_take (Some o) piece (suc used) h some = (take used h.0, ap (take (suc used)) h.1)

  module _ (to : ℕ) (u : List ℕ) (s : List (Value × ℕ)) (m now : State) (awaited : Option ℕ) (piece : List ℕ) (e : to ≡ length u) (ran : Ran g l u s m awaited)
      (begins : BeginsWith awaited piece) where
    -- behind what a step used
    led_there : (used : ℕ) → (is_some awaited ≡ true → 0 < used) → (n : State) → resumed g l (is_some awaited) to m (take used piece) ≡ led n
        → run g l 0 begun (u ++ take used piece) ≡ record { given = s; now = Ok n }
    led_there used some n h =
        further g l to u (take used piece) s m awaited e ran (begins_take awaited piece used begins some)
        ∙ (ap (behind s) h ∙ ap (λ vs. record { given = vs; now = Ok n }) (append-nil s))

    gave_there : (used : ℕ) (v : Value) → 0 < used → resumed g l (is_some awaited) to m (take used piece) ≡ record { given = (v, to + used) ∷ []; now = Ok now }
        → run g l 0 begun (u ++ take used piece) ≡ record { given = s ++ (v, length u + used) ∷ []; now = Ok now }
    gave_there used v some h =
        let place : to + used ≡ length u + used = omega arith in
        further g l to u (take used piece) s m awaited e ran (begins_take awaited piece used begins (λ _. some))
        ∙ (ap (behind s) h ∙ ap (λ k. record { given = s ++ (v, k) ∷ []; now = Ok now }) place)

    whole : (used : ℕ) → (u ++ take used piece) ++ drop used piece ≡ u ++ piece
    whole used = append_assoc u (take used piece) (drop used piece) ∙ ap (λ w. u ++ w) (take-append-drop used piece)

    size : (used : ℕ) → used ≤ length piece → length (u ++ take used piece) ≡ length u + used
    size used within = omega (arith, length-append u (take used piece), length-take-le used piece within)

    -- where the octet that is awaited then is handed in, the value is given before it
    stopped : (used : ℕ) (v : Value) (o : ℕ) → used ≤ length piece → (h : StopsBefore g l (is_some awaited) to m piece used v o now)
        → IsFront (s ++ (v, length u + used) ∷ []) (trace g l (u ++ piece)).given
    stopped used v o within h =
        let front = u ++ take used piece in
        let rest = h.next.0 in
        let later = once_more (length u + used) (λ n. run g l (length u + used + 1) n rest) (eats g l now o) in (
          later.given,
          ap (λ w. (trace g l w).given) (sym (whole used) ∙ ap (λ w. front ++ w) h.next.1)
              ∙ (ap (λ (r : Run). r.given) (run-append g l 0 (length u + used) front (o ∷ rest) (let n = size used within in omega arith) begun)
              ∙ (ap (λ r. (then_run r (λ n. run g l (length u + used) n (o ∷ rest))).given) (led_there used h.onward h.before h.ran)
              ∙ (ap (λ x. (behind s (run_on (length u + used) (λ n. eats g l n o) (λ n. run g l (length u + used + 1) n rest) x)).given) h.left
              ∙ sym (append_assoc s ((v, length u + used) ∷ []) later.given)))),
        )

    -- a step that isn't refused answers what the trace says
    answers_value : (used : ℕ) (value : Option Value) (next : Option ℕ) → Advances g l (is_some awaited) to m piece (Ok (record { used = used; value = value }))
        next now → Answers (trace g l) u s piece (Ok (record { used = used; value = value }))
    answers_value used None (Some o) h = absurd h.1
    answers_value used None None h =
        let after = further g l to u piece s m awaited e ran begins ∙ ap (behind s) h.1.1 in
        (ap (λ (r : Run). (trace_of g l r).given) after ∙ append-nil s, ap (λ (r : Run). (trace_of g l r).refused) after)
    answers_value used (Some v) None h =
        let after = gave_there used v h.1.0 h.1.1 in
        let front = ap (λ (r : Run). (trace_of g l r).given) after in
        let more = grows g l (u ++ take used piece) (drop used piece) in
        (more.given.0, ap (λ w. (trace g l w).given) (sym (whole used)) ∙ (more.given.1 ∙ ap (λ vs. vs ++ more.given.0) front))
    answers_value used (Some v) (Some o) h = stopped used v o h.0 h.1

    pub answers : (result : Result Step Refusal) (next : Option ℕ) → Advances g l (is_some awaited) to m piece result next now
        → Answers (trace g l) u s piece result
    answers (Ok step) next h = answers_value step.used step.value next h
    answers (Err refusal) next h = λ other.
        let after = ap (trace_of g l) (further g l to u piece s m awaited e ran begins ∙ ap (behind s) (h other)) in
        (ap (λ t. t.given) after ∙ append-nil s, ap (λ t. t.refused) after)

    -- what is held then stands for the octets that were used, too
    pub ran_further : (used : ℕ) (value : Option Value) (next : Option ℕ)
        → Advances g l (is_some awaited) to m piece (Ok (record { used = used; value = value })) next now
        → Ran g l (u ++ take used piece) (s ++ given_at value (length u + used)) now next
    ran_further used None (Some o) h = absurd h.1
    ran_further used None None h =
        let all : take used piece ≡ piece = let i = h.1.0 in grind (arith, common_steps) in
        ap (λ w. run g l 0 begun (u ++ w)) all ∙ (further g l to u piece s m awaited e ran begins ∙ ap (behind s) h.1.1)
    ran_further used (Some v) None h = gave_there used v h.1.0 h.1.1
    ran_further used (Some v) (Some o) h = record {
      given = s;
      value = v;
      before = h.1.before;
      ran = led_there used h.1.onward h.1.before h.1.ran;
      left = h.1.left;
      all = ap (λ k. s ++ (v, k) ∷ []) (sym (size used h.0));
    }
