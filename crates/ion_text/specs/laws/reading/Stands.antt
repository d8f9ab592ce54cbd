-- What is known of a reader that stands for octets, also where it awaits the octet that showed the end of the last value.
use Rattle.std.proofs.Common.{◌≡◌, ℕ, ◌+◌, List, [], ◌∷◌, ◌++◌, length, true, Option, Some, None, refl, ap, sym, ◌∙◌, arith, append_assoc}
use Rattle.std.specs.Option.{is_some}
use Rattle.std.specs.Prelude.{IsNone, IfSome}
use Rattle.ion_text.specs.Names.{Catalog, IsFront, Limits, Ran, Run, State, Value, begun, eats, resumed, run, run-append, run_on, then_run, trace, trace_of}
use Rattle.ion_text.specs.machine.Progress.{BeginsWith}
use Rattle.ion_text.specs.machine.Run.{ends}

-- the values in front of what a run gives
abbrev pub behind : List (Value × ℕ) → Run → Run
behind s r = record { given = s ++ r.given; now = r.now }

module _ (g : Catalog) (l : Limits) where
  -- octets that follow u go on from what is held
  pub further : (to : ℕ) (u w : List ℕ) (s : List (Value × ℕ)) (m : State) (awaited : Option ℕ) → to ≡ length u → Ran g l u s m awaited → BeginsWith awaited w
      → run g l 0 begun (u ++ w) ≡ behind s (resumed g l (is_some awaited) to m w)
  further to u w s m None e ran begins = run-append g l 0 to u w (omega arith) begun ∙ ap (λ r. then_run r (λ n. run g l to n w)) ran
  further to u w s m (Some o) e ran begins =
      let rest = begins.0 in
      let onward = resumed g l true to m (o ∷ rest) in
      let values : ran.given ++ (ran.value, to) ∷ onward.given ≡ s ++ onward.given =
      sym (append_assoc ran.given ((ran.value, to) ∷ []) onward.given)
      ∙ ap (λ vs. vs ++ onward.given) (ap (λ k. ran.given ++ (ran.value, k) ∷ []) e ∙ sym ran.all) in
      ap (λ x. run g l 0 begun (u ++ x)) begins.1
      ∙ (run-append g l 0 to u (o ∷ rest) (omega arith) begun
      ∙ (ap (λ r. then_run r (λ n. run g l to n (o ∷ rest))) ran.ran
      ∙ (ap (λ x. behind ran.given (run_on to (λ n. eats g l n o) (λ n. run g l (to + 1) n rest) x)) ran.left
      ∙ (ap (λ vs. record { given = vs; now = onward.now }) values
      ∙ ap (λ x. behind s (resumed g l true to m x)) (sym begins.1)))))

pub none_is : {X : Type 0} (o : Option X) → IsNone o → o ≡ None
none_is None h = refl
none_is (Some x) h = absurd cc

module _ (g : Catalog) (l : Limits) (u : List ℕ) (s : List (Value × ℕ)) (m : State) where
  pub ran_unrefused : (awaited : Option ℕ) → Ran g l u s m awaited → (trace g l u).refused ≡ None
  ran_unrefused None h = ap (λ (x : Run). (trace_of g l x).refused) h
  ran_unrefused (Some o) h = ap (λ (x : Run). (trace_of g l x).refused) h.ran

  pub ran_given : (awaited : Option ℕ) → IsNone awaited → Ran g l u s m awaited → (trace g l u).given ≡ s
  ran_given None none h = ap (λ (x : Run). (trace_of g l x).given) h
  ran_given (Some o) none h = absurd cc

  -- what the end answers is what it answers from there
  pub ran_ends : (awaited : Option ℕ) → IsNone awaited → Ran g l u s m awaited → (trace g l u).ends ≡ ends g l m
  ran_ends None none h = ap (λ (x : Run). (trace_of g l x).ends) h
  ran_ends (Some o) none h = absurd cc

  pub ran_front : (to : ℕ) (awaited : Option ℕ) → to ≡ length u → Ran g l u s m awaited → IfSome awaited (λ octet. IsFront s (trace g l (u ++ octet ∷ [])).given)
  ran_front to None e h = tt
  ran_front to (Some o) e h =
      ((resumed g l true to m (o ∷ [])).given, ap (λ (x : Run). (trace_of g l x).given) (further g l to u (o ∷ []) s m (Some o) e h ([], refl)))
