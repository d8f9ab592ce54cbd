-- What a reader says of octets, however they are cut.
use Rattle.std.specs.Prelude.{◌≡◌, ◌≢◌, ◌+◌, ℕ, List, [], ◌∷◌, ◌++◌, length, map, Option, Some, None, Result, Ok, Err, IsSome, option_to_list}
use Rattle.ion_symtab.specs.Names.Below.{Memory, Refusal, Value}
use Rattle.ion_symtab.specs.declared.items.Step.{Step}

-- what a reader says of some octets
pub record Trace : Type 0 where
  -- the values that its steps give, each with the total of octets used when it came
  pub given : List (Value × ℕ)
  -- the refusal of a step, if one refuses
  pub refused : Option Refusal
  -- what the end answers
  pub ends : Result (Option Value) Refusal

-- the values alone
abbrev pub plain : List (Value × ℕ) → List Value
plain given = map (λ (x : Value × ℕ). x.0) given

-- the value that a step gave, if it gave one, with the total of octets used
abbrev pub given_at : Option Value → ℕ → List (Value × ℕ)
given_at None at = []
given_at (Some v) at = (v, at) ∷ []

-- the values given so far stand in front of these
abbrev pub IsFront : List (Value × ℕ) → List (Value × ℕ) → Type 0
IsFront front all = (later : List (Value × ℕ)) × (all ≡ front ++ later)

-- a step over this piece, behind octets u and the values s given with them, answered what the trace says, unless memory ran out
abbrev pub Answers : (List ℕ → Trace) → List ℕ → List (Value × ℕ) → List ℕ → Result Step Refusal → Type 0
Answers trace u s piece (Ok step) = Gave step.value
  where
    Gave : Option Value → Type 0
    Gave None = ((trace (u ++ piece)).given ≡ s) × ((trace (u ++ piece)).refused ≡ None)
    Gave (Some v) = IsFront (s ++ (v, length u + step.used) ∷ []) (trace (u ++ piece)).given
Answers trace u s piece (Err refusal) =
    refusal.reason ≢ Memory → ((trace (u ++ piece)).given ≡ s) × ((trace (u ++ piece)).refused ≡ Some refusal)

-- the end answered what the trace says, unless memory ran out
abbrev pub Finishes : (List ℕ → Trace) → List ℕ → Result (Option Value) Refusal → Type 0
Finishes trace u (Ok value) = (trace u).ends ≡ Ok value
Finishes trace u (Err refusal) = refusal.reason ≢ Memory → (trace u).ends ≡ Err refusal

-- more octets give more values behind those given, and change no refusal
pub record Grows (before after : Trace) : Type 0 where
  pub given : IsFront before.given after.given
  pub refused : IsSome before.refused → after ≡ before

-- the octets end well, and these are all values
pub record Streams (t : Trace) (s : List Value) : Type 0 where
  pub last : Option Value
  pub ends : t.ends ≡ Ok last
  pub values : s ≡ plain t.given ++ option_to_list last
