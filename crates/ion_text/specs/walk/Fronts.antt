-- What octets at the front of a piece do to a reader that holds no values, and what a visitor hears of them.
use Rattle.std.specs.Prelude.{◌≡◌, ◌≢◌, ℕ, ◌+◌, ◌<◌, ◌≤◌, List, [], ◌∷◌, length, take, get_or, Result, Ok, Err}
use Rattle.ion_text.specs.Names.Below.{Catalog, Event, Frame, Limits, Memory, Refusal, Taken, TextWalk, Value}
use Rattle.ion_text.specs.machine.EachToken.{Symbols}
use Rattle.ion_text.specs.machine.Pieces.{led}
use Rattle.ion_text.specs.machine.Run.{State, eats, leaves, run}
use Rattle.ion_text.specs.walk.Holds.{GaveOut, WentOn, state_of}

-- a run over so many octets at the front of a piece, where `to` were used before
module _ (g : Catalog) (l : Limits) (to : ℕ) (m : State) (piece : List ℕ) (count : ℕ) where
  -- gives nothing, and leads there
  abbrev pub LeadsOver : State → Type 0
  LeadsOver n = (0 < count) × (count ≤ length piece) × (run g l to m (take count piece) ≡ led n)

  -- gives a value with the last of them
  abbrev pub GivesOver : Value → State → Type 0
  GivesOver v n = (0 < count) × (count ≤ length piece)
      × (run g l to m (take count piece) ≡ record { given = (v, to + count) ∷ []; now = Ok n })

  -- leads to where the next one shows the end of a value
  pub record LeavesBehind (v : Value) (n : State) : Type 0 where
    pub within : count < length piece
    pub before : State
    pub ran : run g l to m (take count piece) ≡ led before
    pub left : eats g l before (get_or piece count 0) ≡ leaves v n

module _ {V : Type 0} (takes : V → Event → V → Type 0) (es : List Event) (g : Catalog) (l : Limits) (to : ℕ) (m : State) (piece : List ℕ) where
  -- so many octets did this, and a visitor that had heard of these events heard of them
  abbrev pub Reached : ℕ → Taken → TextWalk → V → V → Type 0
  Reached count Taken.Uses r a b = (fs : List Frame) × (ss : Symbols) × LeadsOver g l to m piece count (state_of r fs ss) × WentOn takes es r fs ss a b
  Reached count Taken.Tells r a b = (v : Value) × GivesOver g l to m piece count v (state_of r [] []) × GaveOut takes es r v a b
  Reached count Taken.Leaves r a b = (v : Value) × LeavesBehind g l to m piece count v (state_of r [] []) × GaveOut takes es r v a b

  -- over octets at the front of a piece a method did what a run over them does, unless memory ran out
  abbrev pub TookFront : Result (ℕ × Taken) Refusal → TextWalk → V → V → Type 0
  TookFront (Ok took) r a b = Reached took.0 took.1 r a b
  TookFront (Err refusal) r a b = refusal.reason ≢ Memory → run g l to m piece ≡ record { given = []; now = Err refusal }

-- Of so many octets these are used: some, where they only go on; and one more is there that showed the end of a value, if one did.
abbrev pub IsWithin : ℕ → ℕ → Taken → Type 0
IsWithin n count Taken.Uses = (0 < count) × (count ≤ n)
IsWithin n count Taken.Tells = count ≤ n
IsWithin n count Taken.Leaves = count < n
