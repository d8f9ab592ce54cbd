-- What a reader tells a visitor of a document that it walks over, and what the end answers then.
use Rattle.std.specs.Prelude.{◌≡◌, ◌≢◌, ℕ, ◌+◌, ◌≤◌, List, [], ◌∷◌, ◌++◌, length, take, Bool, true, false, Option, Some, None, Result, Ok, Err, IfOk, IfErr, IfSome, IsNone}
use Rattle.ion_symtab.specs.Names.Below.{Event, Hears, Memory, Refusal, Value, events_of}
use Rattle.ion_symtab.specs.declared.items.Walked.{Walked}
use Rattle.ion_symtab.specs.declared.items.Went.{Went}
use Rattle.ion_symtab.specs.Steps.{RefusesBy, StepsOver}
use Rattle.ion_symtab.specs.Trace.{Answers, IsFront, Trace}

-- Behind these octets, with these values ended, so much was told of what is open: what contracts see of a reader by `Items::told`.
abbrev pub Telling : Type 0 → Type 1
Telling X = X → List ℕ → List (Value × ℕ) → List Event → Type 0

-- there is something where a value ended
abbrev pub if_ended : Bool → Option (Unit {0})
if_ended true = Some tt
if_ended false = None

module _ {V : Type 0} (takes : V → Event → V → Type 0) where
  -- Behind octets u, which gave the values s and of which es were told, a walk used so many octets of a piece: they ended a value, or
  -- none. A visitor that had heard es has heard all events of that value, or of what is open now.
  abbrev pub WalksOn : {X : Type 0} → Telling X → List ℕ → List (Value × ℕ) → List Event → List ℕ → ℕ → Bool → X → V → V → Type 0
  WalksOn told u s es piece used true new a b = (v : Value)
      × told new (u ++ take used piece) (s ++ (v, length u + used) ∷ []) [] × Hears takes es (events_of v) a b
  WalksOn told u s es piece used false new a b = (fs : List Event) × told new (u ++ take used piece) s fs × Hears takes es fs a b

  -- The end of the octets answered what is said of it, unless memory ran out. Where a value ended, a visitor that had heard es has
  -- heard all its events; where none did, there was nothing to hear.
  abbrev pub EndsOn : Trace → List Event → Result Bool Refusal → V → V → Type 0
  EndsOn t es (Ok true) a b = (v : Value) × (t.ends ≡ Ok (Some v)) × Hears takes es (events_of v) a b
  EndsOn t es (Ok false) a b = (t.ends ≡ Ok None) × Hears takes es [] a b
  EndsOn t es (Err refusal) a b = refusal.reason ≢ Memory → t.ends ≡ Err refusal

-- what is answered of a piece of so many octets, by a reader whose refusal is this
abbrev pub answer_of : Went → ℕ → Option Refusal → Result Walked Refusal
answer_of (Went.Ended used) size refusal = Ok (record { used = used; ended = true })
answer_of Went.Ran size refusal = Ok (record { used = size; ended = false })
answer_of Went.Refused size (Some refusal) = Err refusal
answer_of Went.Refused size None = Err (record { offset = 0; reason = Memory })

-- A walk of a reader over a piece answered so: what it leaves behind it, tells and refuses.
pub record DoesWalk {X V : Type 0} (takes : V → Event → V → Type 0) (taken pending : X → ℕ) (awaits : X → Option ℕ) (failed : X → Option Refusal)
    (told : Telling X) (trace : List ℕ → Trace) (old new : X) (piece : List ℕ) (answer : Result Walked Refusal) (a b : V) : Type 0 where
  pub leaves : IfOk answer (λ walked. StepsOver taken pending awaits failed old new piece walked.used (if_ended walked.ended))
  pub tells : IfOk answer (λ walked. (u : List ℕ) (s : List (Value × ℕ)) (es : List Event) → told old u s es
      → WalksOn takes told u s es piece walked.used walked.ended new a b)
  pub answers : IfErr answer (λ refusal. (u : List ℕ) (s : List (Value × ℕ)) (es : List Event) → told old u s es
      → Answers trace u s piece (Err refusal))
  pub refuses : IfErr answer (RefusesBy taken pending awaits failed old new piece)
  pub again : IfSome (failed old) (λ refusal. answer ≡ Err refusal)

-- What is so of a reader that told what it did: `u` are the octets that it used, `s` the values that ended with them.
pub record HasTold {X : Type 0} (taken kept : X → ℕ) (failed : X → Option Refusal) (awaits : X → Option ℕ) (trace : List ℕ → Trace) (item : ℕ) (r : X)
    (u : List ℕ) (s : List (Value × ℕ)) : Type 0 where
  pub counted : taken r ≡ length u
  pub not_failed : failed r ≡ None
  -- these are whole pieces and an open rest
  pub not_refused : (trace u).refused ≡ None
  -- unless an octet is awaited, they are all values that the trace gives
  pub given_so_far : IsNone (awaits r) → (trace u).given ≡ s
  -- and else the first that it gives with that octet
  pub given_with_next : IfSome (awaits r) (λ octet. IsFront s (trace (u ++ octet ∷ [])).given)
  pub bounded : kept r ≤ item
