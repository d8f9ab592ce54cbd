-- Runs over pieces: what a walk over one does, and what is so behind it.
use Rattle.std.specs.Prelude.{◌≡◌, ◌≢◌, ◌<◌, ◌≤◌, ℕ, ◌+◌, Bool, true, false, List, [], ◌∷◌, ◌++◌, length, take, drop, get_or, Option, Some, None, Result, Ok, Err, IfSome}
use Rattle.ion_text.specs.Names.Below.{Catalog, Limits, Memory, Mode, Reason, Refusal, Stage, Step, Value}
use Rattle.ion_text.specs.machine.Pieces.{led}
use Rattle.ion_text.specs.machine.Run.{Run, State, begun, eats, leaves, once_more, run}
use Rattle.ion_text.specs.machine.Views.{Told}

-- a run over octets gave nothing more than the value that is held, with their last
abbrev pub GaveLast : Run → ℕ → Option Value → State → Type 0
GaveLast ran to (Some v) m = ran ≡ record { given = (v, to) ∷ []; now = Ok m }
GaveLast ran to None m = ⊥

module _ (g : Catalog) (l : Limits) (to : ℕ) (m : State) (piece : List ℕ) where
  -- octets led to a state in which the next one shows the end of the value that is held
  pub record LedLeaving (k : ℕ) (given : Option Value) (now : State) : Type 0 where
    pub within : k < length piece
    pub before : State
    pub ran : run g l to m (take k piece) ≡ led before
    pub left : Told (eats g l before (get_or piece k 0)) leaves given now

-- What a run does from here over octets; behind a value whose end the first of them showed, which comes again, that shows the end of no
-- second one.
abbrev pub resumed : Catalog → Limits → Bool → ℕ → State → List ℕ → Run
resumed g l false to m octets = run g l to m octets
resumed g l true to m [] = run g l to m []
resumed g l true to m (o ∷ os) = once_more to (λ n. run g l (to + 1) n os) (eats g l m o)

-- octets begin with the one that is awaited
abbrev pub BeginsWith : Option ℕ → List ℕ → Type 0
BeginsWith awaited octets = IfSome awaited (λ octet. (rest : List ℕ) × (octets ≡ octet ∷ rest))

module _ (g : Catalog) (l : Limits) (again : Bool) (to : ℕ) (m : State) (piece : List ℕ) where
  -- the octet behind those used showed the end of the value
  pub record StopsBefore (used : ℕ) (v : Value) (o : ℕ) (now : State) : Type 0 where
    pub before : State
    pub ran : resumed g l again to m (take used piece) ≡ led before
    pub left : eats g l before o ≡ leaves v now
    pub next : (rest : List ℕ) × (drop used piece ≡ o ∷ rest)
    pub onward : again ≡ true → 0 < used

  -- a step without a value, with one that its last octet ends, and with one whose end the next octet showed
  abbrev pub StepStops : ℕ → Option Value → Option ℕ → State → Type 0
  StepStops used None (Some o) now = ⊥
  StepStops used None None now = (used ≡ length piece) × (resumed g l again to m piece ≡ led now)
  StepStops used (Some v) None now = (0 < used) × (resumed g l again to m (take used piece) ≡ record { given = (v, to + used) ∷ []; now = Ok now })
  StepStops used (Some v) (Some o) now = StopsBefore used v o now

  -- Over this piece a step answered what a run from here says, and left the reader there.
  abbrev pub Advances : Result Step Refusal → Option ℕ → State → Type 0
  Advances (Ok step) awaited now = (step.used ≤ length piece) × StepStops step.used step.value awaited now
  Advances (Err refusal) awaited now = refusal.reason ≢ Memory → resumed g l again to m piece ≡ record { given = []; now = Err refusal }

-- the refusal that each call answers, if one came: by the reader or by its scanner
abbrev pub or_first : Option Refusal → Option Refusal → Option Refusal
or_first None later = later
or_first (Some refusal) later = Some refusal

-- no value and no token has begun, so that no octet shows the end of one
abbrev pub is_quiet : Stage → Mode → Bool
is_quiet Stage.Ready Mode.Blank = true
is_quiet _ _ = false

-- how many values may come: none if an octet is awaited or nothing has begun, else one
abbrev pub pending_by : Bool → Option ℕ → ℕ
pending_by quiet (Some o) = 0
pending_by true None = 0
pending_by false None = 1

-- The run over these octets gave these values and ended in what the reader holds. Where an octet is awaited, it shows the end of the last
-- of them, which came before it.
abbrev pub Ran : Catalog → Limits → List ℕ → List (Value × ℕ) → State → Option ℕ → Type 0
Ran g l u s m None = run g l 0 begun u ≡ record { given = s; now = Ok m }
Ran g l u s m (Some o) =
    record {
      given : List (Value × ℕ);
      value : Value;
      before : State;
      ran : run g l 0 begun u ≡ record { given = given; now = Ok before };
      left : eats g l before o ≡ leaves value m;
      all : s ≡ given ++ (value, length u) ∷ [];
    }

-- the end of octets was answered so, unless memory ran out
abbrev pub DidEnd : ℕ → Result (Option Value) Refusal → Result (Option Value) Reason → Type 0
DidEnd used wanted (Ok value) = wanted ≡ Ok value
DidEnd used wanted (Err reason) = reason ≢ Memory → wanted ≡ Err (record { offset = used; reason = reason })
