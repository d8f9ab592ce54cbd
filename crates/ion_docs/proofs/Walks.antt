-- A walk handed on to the reader that was chosen.
use Rattle.std.proofs.Common.{◌≡◌, ℕ, ◌+◌, ◌-◌, ◌*◌, ◌<◌, ◌≤◌, Bool, true, false, List, [], ◌∷◌, ◌++◌, length, take, drop, suc, ap, ◌∙◌, sym, refl, subst, append-nil, append_assoc, arith, Result, Ok, Err, Option, Some, None, IfOk, IfErr, IfSome, IsNone, IsSome}
use Rattle.std.proofs.lemmas.Grind.{common_steps}
use Rattle.std.proofs.lemmas.Option.{same_Some}
use Rattle.std.proofs.lemmas.List.{length-drop, take-append-drop}
use Rattle.ion_docs.specs.Names.{Answers, Begins, Built, Catalog, DocTold, DocWalk, EncodingTold, EndsOn, Event, Grows, Handed, HasBuilt, IsFront, Led, Limits, Refusal, StepsOver, Telling, Trace, Unbegun, Value, WalksOn, builds, chosen, events_of, fresh, given_at, if_ended, value_in, without_value}
use Rattle.ion_visiting.specs.Tables.{Hears}
use Rattle.ion_visiting.specs.declared.building.Open.TheVariants.{Top}
use Rattle.ion_visiting.specs.laws.Built.{value_built}
use Rattle.ion_visiting.specs.laws.Led.{led_both}
use Rattle.ion_symtab.specs.declared.items.Walked.{Walked}
use Rattle.ion_symtab.specs.laws.Builds.{walks_lifted}
use Rattle.ion_docs.specs.declared.doc_walk.Encoding.{Encoding}
use Rattle.ion_docs.specs.laws.Begun.{begins_on, chosen_in, same_trace, trace_in}
use Rattle.ion_docs.proofs.Chosen.{begins_front, some_used}

-- a reader told of octets as the reader of the encoding that it holds did
pub inside : (d : DocWalk) (e : Encoding) (u : List ℕ) (s : List (Value × ℕ)) (es : List Event) → d.encoding ≡ e → DocTold d u s es → EncodingTold d e u s es
inside d e u s es is h = let P : Encoding → Type 0 = λ e. EncodingTold d e u s es in subst P is h

-- 1. A reader chosen before.
module _ (d : DocWalk) (b : Bool) (limits : Limits) (catalog : Catalog) (Old : List ℕ → List (Value × ℕ) → List Event → Type 0)
    (told : (u : List ℕ) (s : List (Value × ℕ)) (es : List Event) → DocTold d u s es → Handed d b limits catalog (Old u s es) u) where
  pub tells_forward : {V X : Type 0} (takes : V → Event → V → Type 0) (inner : Telling X) (new : X) (after : DocWalk) (piece : List ℕ)
      (result : Result Walked Refusal) (a z : V)
      → ((u : List ℕ) (s : List (Value × ℕ)) (es : List Event) → inner new u s es → Begins b u → limits ≡ d.limits → catalog ≡ d.catalog.now
      → DocTold after u s es)
      → IfOk result (λ walked. (u : List ℕ) (s : List (Value × ℕ)) (es : List Event) → Old u s es
      → WalksOn takes inner u s es piece walked.used walked.ended new a z)
      → IfOk result (λ walked. (u : List ℕ) (s : List (Value × ℕ)) (es : List Event) → DocTold d u s es
      → WalksOn takes DocTold u s es piece walked.used walked.ended after a z)
  tells_forward takes inner new after piece (Ok walked) a z lift tells = λ u s es h.
      let k = told u s es h in
      walks_lifted takes inner DocTold new after u s es piece walked.used walked.ended a z
      (λ t fs on. lift (u ++ take walked.used piece) t fs on (begins_on b u (take walked.used piece) k.1) k.2 k.3) (tells u s es k.0)
  tells_forward takes inner new after piece (Err refusal) a z lift tells = tt

  pub answers_forward : (piece : List ℕ) (result : Result Walked Refusal)
      → IfErr result (λ refusal. (u : List ℕ) (s : List (Value × ℕ)) (es : List Event) → Old u s es
      → Answers (trace_in b catalog limits) u s piece (Err refusal))
      → IfErr result (λ refusal. (u : List ℕ) (s : List (Value × ℕ)) (es : List Event) → DocTold d u s es
      → Answers (chosen d.catalog.now d.limits) u s piece (Err refusal))
  answers_forward piece (Ok walked) answers = tt
  answers_forward piece (Err refusal) answers = λ u s es h other.
      let k = told u s es h in
      let P : (List ℕ → Trace) → Type 0 = λ t. ((t (u ++ piece)).given ≡ s) × ((t (u ++ piece)).refused ≡ Some refusal) in
      let said = subst P (same_trace b catalog d.catalog.now limits d.limits k.3 k.2) (answers u s es k.0 other) in
      rw (chosen_in b d.catalog.now d.limits (u ++ piece) (begins_on b u piece k.1)) said

  pub ends_forward : {V : Type 0} (takes : V → Event → V → Type 0) (result : Result Bool Refusal) (a z : V)
      → ((u : List ℕ) (s : List (Value × ℕ)) (es : List Event) → Old u s es → EndsOn takes (trace_in b catalog limits u) es result a z)
      → (u : List ℕ) (s : List (Value × ℕ)) (es : List Event) → DocTold d u s es → EndsOn takes (chosen d.catalog.now d.limits u) es result a z
  ends_forward takes result a z ends u s es h =
      let k = told u s es h in
      let P : Trace → Type 0 = λ t. EndsOn takes t es result a z in
      subst P (ap (λ (t : List ℕ → Trace). t u) (same_trace b catalog d.catalog.now limits d.limits k.3 k.2)
      ∙ sym (chosen_in b d.catalog.now d.limits u k.1)) (ends u s es k.0)

-- 2. The first walk of all: nothing was read before it.
module _ (d : DocWalk) (b : Bool) (Old : List ℕ → List (Value × ℕ) → List Event → Type 0) (piece : List ℕ) (is : d.encoding ≡ Unbegun)
    (begins : Begins b piece) (told : Old [] [] []) where
  pub first_tells : {V X : Type 0} (takes : V → Event → V → Type 0) (inner : Telling X) (new : X) (after : DocWalk) (result : Result Walked Refusal) (a z : V)
      → ((u : List ℕ) (s : List (Value × ℕ)) (es : List Event) → inner new u s es → Begins b u → DocTold after u s es)
      → IfOk result (λ walked. 0 < walked.used)
      → IfOk result (λ walked. (u : List ℕ) (s : List (Value × ℕ)) (es : List Event) → Old u s es
      → WalksOn takes inner u s es piece walked.used walked.ended new a z)
      → IfOk result (λ walked. (u : List ℕ) (s : List (Value × ℕ)) (es : List Event) → DocTold d u s es
      → WalksOn takes DocTold u s es piece walked.used walked.ended after a z)
  first_tells takes inner new after (Ok walked) a z lift some tells = λ u s es h.
      let k = inside d Unbegun u s es is h in
      let P : List ℕ → Type 0 = λ u. WalksOn takes DocTold u s es piece walked.used walked.ended after a z in
      let Q : List (Value × ℕ) → Type 0 = λ s. WalksOn takes DocTold [] s es piece walked.used walked.ended after a z in
      let R : List Event → Type 0 = λ es. WalksOn takes DocTold [] [] es piece walked.used walked.ended after a z in
      subst P (sym k.0) (subst Q (sym k.1) (subst R (sym k.2)
      (walks_lifted takes inner DocTold new after [] [] [] piece walked.used walked.ended a z
      (λ t fs on. lift (take walked.used piece) t fs on (begins_front b piece walked.used begins some)) (tells [] [] [] told))))
  first_tells takes inner new after (Err refusal) a z lift some tells = tt

  pub first_says : (result : Result Walked Refusal) (limits : Limits) (catalog : Catalog) → limits ≡ d.limits → catalog ≡ d.catalog.now
      → IfErr result (λ refusal. (u : List ℕ) (s : List (Value × ℕ)) (es : List Event) → Old u s es
      → Answers (trace_in b catalog limits) u s piece (Err refusal))
      → IfErr result (λ refusal. (u : List ℕ) (s : List (Value × ℕ)) (es : List Event) → DocTold d u s es
      → Answers (chosen d.catalog.now d.limits) u s piece (Err refusal))
  first_says (Ok walked) limits catalog within under answers = tt
  first_says (Err refusal) limits catalog within under answers = λ u s es h other.
      let k = inside d Unbegun u s es is h in
      let P : (List ℕ → Trace) → Type 0 = λ t. ((t piece).given ≡ []) × ((t piece).refused ≡ Some refusal) in
      let said = subst P (same_trace b catalog d.catalog.now limits d.limits under within) (answers [] [] [] told other) in
      let here : ((chosen d.catalog.now d.limits piece).given ≡ []) × ((chosen d.catalog.now d.limits piece).refused ≡ Some refusal) =
      rw (chosen_in b d.catalog.now d.limits piece begins) said in
      let Q : List ℕ → Type 0 = λ u. ((chosen d.catalog.now d.limits (u ++ piece)).given ≡ s)
      × ((chosen d.catalog.now d.limits (u ++ piece)).refused ≡ Some refusal) in
      subst Q (sym k.0) (here.0 ∙ sym k.1, here.1)

module _ {X : Type 0} (taken pending : X → ℕ) (awaits : X → Option ℕ) (failed : X → Option Refusal) where
  -- the first walk over a piece that isn't empty uses an octet
  pub first_walked : (b : Bool) (old new : X) (piece : List ℕ) (result : Result Walked Refusal) → pending old ≡ 0 → Begins b piece
      → IfOk result (λ walked. StepsOver taken pending awaits failed old new piece walked.used (if_ended walked.ended))
      → IfOk result (λ walked. 0 < walked.used)
  first_walked b old new piece (Ok walked) none begins leaves =
      some_used b piece walked.used (if_ended walked.ended) begins leaves.uses_all (λ some. let h = leaves.progress some in omega (arith, h, none))
  first_walked b old new piece (Err refusal) none begins leaves = tt
