-- What is so behind a walk over a piece, and at the end of the octets.
use Rattle.std.proofs.Common.{◌≡◌, ℕ, zero, suc, ◌+◌, ◌*◌, ◌<◌, ◌≤◌, Bool, true, false, List, [], ◌∷◌, ◌++◌, length, take, drop, Option, Some, None, Result, Ok, Err, refl, ap, sym, subst, ◌∙◌, arith, length-append, append-nil}
use Rattle.std.specs.Option.{is_some, IsSome}
use Rattle.std.specs.Prelude.{IsNone, IfSome}
use Rattle.std.proofs.lemmas.List.{length-take-le}
use Rattle.ion_text.specs.Names.{Advances, Answers, Begins, Catalog, EndsOn, Event, FinishedSo, Frame, Hears, Holds, IsSteady, Limits, Ran, Refusal, StandsFor, State, StaysSteady, StepsOver, Symbols, TextWalk, Told, Value, Walked, WalksOn, begun, events_of, failed, failure, given_at, heard, if_ended, is_quiet, looks, octets_used, or_first, pending, pending_by, scanned, state_of, told, trace}
use Rattle.ion_text.specs.machine.Progress.{BeginsWith}
use Rattle.ion_text.specs.machine.Run.{ends}
use Rattle.ion_text.specs.walk.Advances.{AdvancesBy, DidAdvance}
use Rattle.ion_text.specs.laws.reading.Stands.{none_is, ran_ends}
use Rattle.ion_text.proofs.AfterSteps.{answers, ran_further}
use Rattle.ion_text.proofs.ValuesLeft.{few, nothing}

-- 1. What a walk leaves.

module _ (old new : TextWalk) (piece : List ℕ) (begins : BeginsWith old.awaited piece) where
  -- one may still end at most
  one : pending new ≤ 1
  one = few (is_quiet new.stage (scanned new.scanner).mode) new.awaited

  -- where an octet is awaited none is owed
  none_owed : (r : TextWalk) → IsSome r.awaited → pending r ≡ 0
  none_owed r some = by (is_quiet r.stage (scanned r.scanner).mode) r.awaited some
    where
      by : (b : Bool) (o : Option ℕ) → IsSome o → pending_by b o ≡ 0
      by b (Some o) h = refl
      by b None h = absurd cc

  -- a value ended with an octet, or was owed and shown by the first
  module _ (used : ℕ) (goes : used ≡ 0 → (pending old ≡ 1) × IsSome new.awaited) where
    ended_progress : pending new < pending old + 2 * used
    ended_progress = by used goes
      where
        by : (k : ℕ) → (k ≡ 0 → (pending old ≡ 1) × IsSome new.awaited) → pending new < pending old + 2 * k
        by zero h = let x = h refl in let y = none_owed new x.1 in omega (arith, x.0, y)
        by (suc k) h = let n = one in omega (arith, n)

    ended_onward : IsSome old.awaited → 0 < used
    ended_onward some = by used goes
      where
        by : (k : ℕ) → (k ≡ 0 → (pending old ≡ 1) × IsSome new.awaited) → 0 < k
        by zero h = let x = h refl in let y = none_owed old some in absurd (omega (arith, x.0, y))
        by (suc k) h = omega arith

  -- none ended, and the piece was used
  module _ (used : ℕ) (all : used ≡ length piece) where
    whole_pending : (piece ≡ [] → pending new ≡ pending old) → pending new ≤ pending old + 2 * used
    whole_pending still = by piece all still
      where
        by : (os : List ℕ) → used ≡ length os → (os ≡ [] → pending new ≡ pending old) → pending new ≤ pending old + 2 * used
        by [] e h = let n = h refl in omega (arith, n)
        by (o ∷ os) e h = let n = one in omega (arith, n, e)

    whole_onward : IsSome old.awaited → 0 < used
    whole_onward some = by old.awaited piece begins all some
      where
        by : (a : Option ℕ) (os : List ℕ) → BeginsWith a os → used ≡ length os → IsSome a → 0 < used
        by (Some o) (x ∷ os) b e h = omega (arith, e)
        by (Some o) [] b e h = absurd (nothing o b.0 b.1)
        by None os b e h = absurd cc

  pub leaves_behind : (walked : Walked) → walked.used ≤ length piece → (walked.ended ≡ false → walked.used ≡ length piece)
      → octets_used new ≡ octets_used old + walked.used → (piece ≡ [] → pending new ≡ pending old) → failed new ≡ None
      → IfSome new.awaited (λ octet. (rest : List ℕ) × (drop walked.used piece ≡ octet ∷ rest))
      → (walked.ended ≡ true → walked.used ≡ 0 → (pending old ≡ 1) × IsSome new.awaited)
      → StepsOver octets_used pending (λ r. r.awaited) failed old new piece walked.used (if_ended walked.ended)
  leaves_behind walked within all counted still fine next goes = by walked.ended all goes
    where
      by : (ended : Bool) → (ended ≡ false → walked.used ≡ length piece) → (ended ≡ true → walked.used ≡ 0 → (pending old ≡ 1) × IsSome new.awaited)
          → StepsOver octets_used pending (λ r. r.awaited) failed old new piece walked.used (if_ended ended)
      by false a g = record {
        used = within;
        uses_all = λ none. a refl;
        counts = counted;
        progress = λ some. absurd cc;
        few_pending = whole_pending walked.used (a refl) still;
        onward = whole_onward walked.used (a refl);
        not_failed = fine;
        awaited = next;
      }
      by true a g =
          let more = ended_progress walked.used (g refl) in
          record {
            used = within;
            uses_all = λ none. absurd cc;
            counts = counted;
            progress = λ some. more;
            few_pending = omega (arith, more);
            onward = ended_onward walked.used (g refl);
            not_failed = fine;
            awaited = next;
          }

-- it has refused nothing, and its scanner neither
pub fine_behind : (old new : TextWalk) → IsNone (failed old) → new.failed ≡ old.failed → IsNone (failure new.scanner) → failed new ≡ None
fine_behind old new fine same scanner = ap (λ o. or_first o (failure new.scanner)) same ∙ by old.failed fine
  where
    by : (o : Option Refusal) → IsNone (or_first o (failure old.scanner)) → or_first o (failure new.scanner) ≡ None
    by None h = none_is (failure new.scanner) scanner
    by (Some r) h = absurd cc

-- nothing of an empty piece changes it
pub still_pending : (old new : TextWalk) (piece : List ℕ) → BeginsWith old.awaited piece → piece ≡ [] → new.stage ≡ old.stage → new.scanner ≡ old.scanner
    → new.awaited ≡ None → pending new ≡ pending old
still_pending old new piece begins none stage scanner awaited =
    ap (λ o. pending_by (is_quiet new.stage (scanned new.scanner).mode) o) (awaited ∙ sym (unawaited old.awaited (subst (BeginsWith old.awaited) none begins)))
    ∙ (ap (λ n. pending_by (is_quiet n (scanned new.scanner).mode) old.awaited) stage
    ∙ ap (λ k. pending_by (is_quiet old.stage (scanned k).mode) old.awaited) scanner)
  where
    unawaited : (o : Option ℕ) → BeginsWith o [] → o ≡ None
    unawaited None h = refl
    unawaited (Some x) h = absurd (nothing x h.0 h.1)

-- 2. What a walk did behind octets for which the reader stood.

module _ (old new : TextWalk) (piece : List ℕ) (used : ℕ) (u : List ℕ) (s : List (Value × ℕ)) (begins : BeginsWith old.awaited piece)
    (same_catalog : new.catalog ≡ old.catalog) (same_limits : new.limits ≡ old.limits) (counted : octets_used new ≡ octets_used old + used)
    (fine : failed new ≡ None) (steady : StaysSteady old new) (fs : List Frame) (ss : Symbols) (h : StandsFor old u s fs ss) where
  -- the reader stands for the octets that were used, too
  stands_behind : (value : Option Value) (gs : List Frame) (ts : Symbols)
      → Advances old.catalog.now old.limits (is_some old.awaited) (octets_used old) (state_of old fs ss) piece (Ok (record { used = used; value = value }))
      new.awaited (state_of new gs ts) → Holds new gs ts → StandsFor new (u ++ take used piece) (s ++ given_at value (length u + used)) gs ts
  stands_behind value gs ts advances holds =
      let before = h.counted in
      record {
        fine = fine;
        counted = omega (arith, length-append u (take used piece), length-take-le used piece advances.0);
        steady = steady h.steady;
        holds = holds;
        ran =
            let values = s ++ given_at value (length u + used) in
            let octets = u ++ take used piece in
            subst (λ (g : Catalog). Ran g new.limits octets values (state_of new gs ts) new.awaited) (ap (λ (b : _). b.now) (sym same_catalog))
            (subst (λ (l : Limits). Ran old.catalog.now l octets values (state_of new gs ts) new.awaited) (sym same_limits)
            (ran_further old.catalog.now old.limits (octets_used old) u s (state_of old fs ss) (state_of new gs ts) old.awaited piece h.counted h.ran begins used
            value new.awaited advances));
      }

  module _ {V : Type 0} (takes : V → Event → V → Type 0) (es : List Event) (same : es ≡ heard (told fs ss)) (a b : V) where
    walks_so : (ended : Bool)
        → AdvancesBy takes (told fs ss) old.catalog.now old.limits (is_some old.awaited) (octets_used old) (state_of old fs ss) piece used ended new a b
        → WalksOn takes Told u s es piece used ended new a b
    walks_so false d =
        let stood = stands_behind None d.0 d.1 d.2 d.3.holds in (
          heard (told d.0 d.1),
          (d.0, d.1, subst (λ vs. StandsFor new (u ++ take used piece) vs d.0 d.1) (append-nil s) stood, refl),
          subst (λ x. Hears takes x (heard (told d.0 d.1)) a b) (sym same) d.3.hears,
        )
    walks_so true d = (
      d.0,
      ([], [], stands_behind (Some d.0) [] [] d.1 d.2.holds, refl),
      subst (λ x. Hears takes x (events_of d.0) a b) (sym same) d.2.hears,
    )

-- a walk that isn't refused told a visitor what there was to tell
pub walks_behind : {V : Type 0} (takes : V → Event → V → Type 0) (old new : TextWalk) (piece : List ℕ) (walked : Walked) (a b : V)
    → BeginsWith old.awaited piece → new.catalog ≡ old.catalog → new.limits ≡ old.limits → octets_used new ≡ octets_used old + walked.used
    → failed new ≡ None → StaysSteady old new
    → ((fs : List Frame) (ss : Symbols) → Holds old fs ss
    → AdvancesBy takes (told fs ss) old.catalog.now old.limits (is_some old.awaited) (octets_used old) (state_of old fs ss) piece walked.used walked.ended new a b)
    → (u : List ℕ) (s : List (Value × ℕ)) (es : List Event) → Told old u s es → WalksOn takes Told u s es piece walked.used walked.ended new a b
walks_behind takes old new piece walked a b begins same_catalog same_limits counted fine steady does u s es t =
    walks_so old new piece walked.used u s begins same_catalog same_limits counted fine steady t.0 t.1 t.2 takes es t.3 a b walked.ended
    (does t.0 t.1 t.2.holds)

-- a walk that is refused answers what the trace says
pub walk_answers : {V : Type 0} (takes : V → Event → V → Type 0) (old new : TextWalk) (piece : List ℕ) (refusal : Refusal) (a b : V)
    → BeginsWith old.awaited piece
    → ((fs : List Frame) (ss : Symbols) → Holds old fs ss
    → DidAdvance takes (told fs ss) old.catalog.now old.limits (is_some old.awaited) (octets_used old) (state_of old fs ss) piece (Err refusal) new a b)
    → (u : List ℕ) (s : List (Value × ℕ)) (es : List Event) → Told old u s es → Answers (trace old.catalog.now old.limits) u s piece (Err refusal)
walk_answers takes old new piece refusal a b begins does u s es t =
    let h = t.2 in
    let m = state_of old t.0 t.1 in
    answers old.catalog.now old.limits (octets_used old) u s m m old.awaited piece h.counted h.ran begins (Err refusal) None (does t.0 t.1 h.holds)

-- 3. At the end of the octets.

ends_so : {V : Type 0} (takes : V → Event → V → Type 0) (r : TextWalk) (u : List ℕ) (s : List (Value × ℕ)) (fs : List Frame) (ss : Symbols) (es : List Event)
    (result : Result Bool Refusal) (a b : V) → es ≡ heard (told fs ss)
    → (trace r.catalog.now r.limits u).ends ≡ ends r.catalog.now r.limits (state_of r fs ss)
    → FinishedSo takes (told fs ss) (ends r.catalog.now r.limits (state_of r fs ss)) result a b
    → EndsOn takes (trace r.catalog.now r.limits u) es result a b
ends_so takes r u s fs ss es (Ok true) a b same e h = (h.0, e ∙ h.1, subst (λ x. Hears takes x (events_of h.0) a b) (sym same) h.2)
ends_so takes r u s fs ss es (Ok false) a b same e h = (e ∙ h.0, subst (λ x. Hears takes x [] a b) (sym same) h.1)
ends_so takes r u s fs ss es (Err refusal) a b same e h = λ other. e ∙ h other

-- the end answered what is said of it
pub ends_behind : {V : Type 0} (takes : V → Event → V → Type 0) (r : TextWalk) (result : Result Bool Refusal) (a b : V) → IsNone r.awaited
    → (IsNone (failed r) → (fs : List Frame) (ss : Symbols) → Holds r fs ss
    → FinishedSo takes (told fs ss) (ends r.catalog.now r.limits (state_of r fs ss)) result a b)
    → (u : List ℕ) (s : List (Value × ℕ)) (es : List Event) → Told r u s es → EndsOn takes (trace r.catalog.now r.limits u) es result a b
ends_behind takes r result a b none does u s es t =
    let h = t.2 in
    ends_so takes r u s t.0 t.1 es result a b t.3 (ran_ends r.catalog.now r.limits u s (state_of r t.0 t.1) r.awaited none h.ran)
    (does (subst IsNone (sym h.fine) refl) t.0 t.1 h.holds)

-- 4. Before the first octet.

-- where the machine begins, the reader stands for no octets and has told nothing
pub begins_so : (g : Catalog) (l : Limits) (r : TextWalk) → Holds r [] [] → state_of r [] [] ≡ begun → r.catalog.now ≡ g → r.limits ≡ l
    → IsSteady (scanned r.scanner) (looks r.scanner) → failed r ≡ None → r.awaited ≡ None → Begins g l r
begins_so g l r holds state catalog limits steady fine awaits = record {
  told = (
    [],
    [],
    record {
      fine = fine;
      counted = none;
      steady = steady;
      holds = holds;
      ran =
          subst (λ o. Ran r.catalog.now r.limits [] [] (state_of r [] []) o) (sym awaits)
          (ap (λ m. record { given = []; now = Ok m }) (sym state));
    },
    refl,
  );
  catalog = catalog;
  limits = limits;
  taken = none;
  failed = fine;
  awaits = awaits;
  pending = ap (λ (m : State). pending_by (is_quiet m.reading.now m.scan.mode) r.awaited) state ∙ ap (pending_by true) awaits;
}
  where
    none : octets_used r ≡ 0
    none = ap (λ (m : State). m.scan.used) state

-- A reader that let octets go leaves and tells what it did before.
module _ (old new after : TextWalk) (piece : List ℕ) (n : ℕ) where
  pub let_go_leaves : (found : Option (Unit {0})) → octets_used after ≡ octets_used new → pending after ≡ pending new → after.awaited ≡ new.awaited
      → failed after ≡ failed new → StepsOver octets_used pending (λ r. r.awaited) failed old new piece n found
      → StepsOver octets_used pending (λ r. r.awaited) failed old after piece n found
  let_go_leaves found u p a f h = record {
    used = h.used;
    uses_all = h.uses_all;
    counts = u ∙ h.counts;
    progress = λ some. subst (λ (k : ℕ). k < pending old + 2 * n) (sym p) (h.progress some);
    few_pending = subst (λ (k : ℕ). k ≤ pending old + 2 * n) (sym p) h.few_pending;
    onward = h.onward;
    not_failed = f ∙ h.not_failed;
    awaited = subst (λ (o : Option ℕ). IfSome o (λ octet. (rest : List ℕ) × (drop n piece ≡ octet ∷ rest))) (sym a) h.awaited;
  }

  pub let_go_tells : {V : Type 0} (takes : V → Event → V → Type 0) (a b : V)
      → ((u : List ℕ) (s : List (Value × ℕ)) (es : List Event) → Told new u s es → Told after u s es)
      → (u : List ℕ) (s : List (Value × ℕ)) (es : List Event) (ended : Bool) → WalksOn takes Told u s es piece n ended new a b
      → WalksOn takes Told u s es piece n ended after a b
  let_go_tells takes a b told u s es true (v, t, h) = (v, told _ _ _ t, h)
  let_go_tells takes a b told u s es false (fs, t, h) = (fs, told _ _ _ t, h)
