-- Tokens that lie whole at the front of octets, where a scanner rests: a reader that holds no values takes them up at once.
use Rattle.std.specs.Prelude.{◌≡◌, ◌+◌, ◌-◌, ◌^◌, ◌≤◌, ◌<◌, ℕ, Bool, true, false, List, [], ◌∷◌, length, take, get_or, Result, Ok, Err, IfOk, IfErr}
use Rattle.ion_text.specs.Names.Below.{Event, Frame, Gives, Goes, Hears, Memory, Mode, Part, Place, Reason, Rest, Stage, Taken, TextWalk, Turned, Value, heard, is_fields, resting, scanned}
use Rattle.ion_text.specs.machine.AtOnce.{IsStill, Passes}
use Rattle.ion_text.specs.machine.EachToken.{Symbols, begun_at, place}
use Rattle.ion_text.specs.machine.Pieces.{led}
use Rattle.ion_text.specs.machine.Run.{State, eats, leaves, run, with_scan}
use Rattle.ion_text.specs.walk.Holds.{GaveOut, Holds, SameSetting, reading_of, state_of, told}

-- a scanner that rests there, before a reader with these containers and annotations
abbrev pub resting_at : Rest → TextWalk → List Frame → Symbols → State
resting_at rest r fs ss = with_scan (resting rest) (reading_of r fs ss)

-- A reader may stand for these containers and annotations, nothing waits, and the limit on items leaves so many octets to the open item, or
-- to the next one.
pub record Ahead (r : TextWalk) (fs : List Frame) (ss : Symbols) (rest : Rest) (n : ℕ) : Type 0 where
  pub holds : Holds r fs ss
  pub still : IsStill r.stage
  pub fits : rest.used + n ≤ r.limits.item + begun_at r.start rest.used fs ss

-- Tokens are taken up where a reader may come to this next, and the octets show more than their first one.
pub record Takes (now : Stage) (r : TextWalk) (rest : Rest) (octets : List ℕ) : Type 0 where
  pub stage : r.stage ≡ now
  pub more : 1 < length octets
  pub room : rest.used + length octets < 2 ^ 63

-- a token is looked for there
abbrev pub IsHere : TextWalk → Place → Type 0
IsHere r here = (fs : List Frame) (ss : Symbols) → Holds r fs ss → here ≡ place (reading_of r fs ss)

-- a part that may be a local symbol table where it is annotated as one
abbrev pub is_null_struct : Part → Bool
is_null_struct (Part.Null kind) = is_fields kind
is_null_struct _ = false

-- what a token answers that only goes on; what else could come of it is told as memory that ran out
abbrev pub only_goes : Result Turned Reason → Result Taken Reason
only_goes (Ok Goes) = Ok Taken.Uses
only_goes _ = Err Memory

-- the same of one that ends a value, whose end the octet behind it shows, or its last one
abbrev pub value_took : Result Turned Reason → Bool → Result Taken Reason
value_took (Ok Goes) left = Ok Taken.Uses
value_took (Ok Gives) true = Ok Taken.Leaves
value_took (Ok Gives) false = Ok Taken.Tells
value_took _ left = Err Memory

module _ {V : Type 0} (takes : V → Event → V → Type 0) where
  -- From where a reader stood a run goes on over so many octets to where it stands now, and a visitor heard what there was to hear of them.
  pub record StrodeFrom (fs : List Frame) (ss : Symbols) (old new : TextWalk) (before after : Rest) (octets : List ℕ) (count : ℕ)
      (a b : V) : Type 0 where
    pub frames : List Frame
    pub notes : Symbols
    pub passes : Passes old.catalog.now old.limits (resting_at before old fs ss) octets count (resting_at after new frames notes)
    pub ahead : Ahead new frames notes after (length octets - count)
    pub hears : Hears takes (heard (told fs ss)) (heard (told frames notes)) a b

  -- From where a reader with its scanner stood a run goes on over so many octets to where they stand now.
  pub record Strides (fs : List Frame) (ss : Symbols) (old new : TextWalk) (octets : List ℕ) (count : ℕ) (a b : V) : Type 0 where
    pub frames : List Frame
    pub notes : Symbols
    pub passes : Passes old.catalog.now old.limits (state_of old fs ss) octets count (state_of new frames notes)
    pub holds : Holds new frames notes
    pub hears : Hears takes (heard (told fs ss)) (heard (told frames notes)) a b
    -- no token has begun, and nothing waits
    pub still : IsStill new.stage
    pub rests : (scanned new.scanner).mode ≡ Mode.Blank

  -- Over so many octets a run goes on, gives a value with the last of them, or leads to where the next one shows the end of a value; a visitor
  -- heard what there was to hear of them.
  abbrev pub EndsSo : List Frame → Symbols → TextWalk → TextWalk → Rest → Rest → List ℕ → ℕ → V → V → Taken → Type 0
  EndsSo fs ss old new before after octets count a b Taken.Uses = StrodeFrom fs ss old new before after octets count a b
  EndsSo fs ss old new before after octets count a b Taken.Tells = (0 < count)
      × (v : Value) × (run old.catalog.now old.limits before.used (resting_at before old fs ss) (take count octets)
      ≡ record { given = (v, before.used + count) ∷ []; now = Ok (resting_at after new [] []) }) × GaveOut takes (told fs ss) new v a b
  EndsSo fs ss old new before after octets count a b Taken.Leaves = (0 < count)
      × (v : Value) × (m : State) × (run old.catalog.now old.limits before.used (resting_at before old fs ss) (take count octets) ≡ led m)
      × (eats old.catalog.now old.limits m (get_or octets count 0) ≡ leaves v (resting_at after new [] [])) × GaveOut takes (told fs ss) new v a b

  -- so many octets at the front of these were taken up, whatever the reader stood for
  pub record Ended (old new : TextWalk) (before after : Rest) (octets : List ℕ) (ends : ℕ × Taken) (a b : V) : Type 0 where
    pub leads : (fs : List Frame) (ss : Symbols) → Ahead old fs ss before (length octets) → EndsSo fs ss old new before after octets ends.0 a b ends.1
    pub within : ends.0 ≤ length octets - 1
    pub used : after.used ≡ before.used + ends.0

  -- the same where they only go on
  abbrev pub Strode : TextWalk → TextWalk → Rest → Rest → List ℕ → ℕ → V → V → Type 0
  Strode old new before after octets count a b = Ended old new before after octets (count, Taken.Uses) a b

  -- what taking up of these octets answers; how many were taken up is how far the place has moved
  pub record EndsBy (old new : TextWalk) (before after : Rest) (octets : List ℕ) (result : Result Taken Reason) (a b : V) : Type 0 where
    pub ended : IfOk result (λ taken. Ended old new before after octets (after.used - before.used, taken) a b)
    pub memory : IfErr result (λ reason. reason ≡ Memory)
    pub same : SameSetting old new

  -- From where a reader with its scanner stood, over so many octets a run goes on, gives a value with the last of them, or leads to where the
  -- next one shows the end of a value; a visitor heard what there was to hear of them.
  abbrev pub TookSo : List Frame → Symbols → TextWalk → TextWalk → List ℕ → ℕ → V → V → Taken → Type 0
  TookSo fs ss old new octets count a b Taken.Uses = Strides fs ss old new octets count a b
  TookSo fs ss old new octets count a b Taken.Tells = (0 < count)
      × (v : Value) × (run old.catalog.now old.limits (scanned old.scanner).used (state_of old fs ss) (take count octets)
      ≡ record { given = (v, (scanned old.scanner).used + count) ∷ []; now = Ok (state_of new [] []) }) × GaveOut takes (told fs ss) new v a b
  TookSo fs ss old new octets count a b Taken.Leaves = (0 < count)
      × (v : Value) × (m : State) × (run old.catalog.now old.limits (scanned old.scanner).used (state_of old fs ss) (take count octets) ≡ led m)
      × (eats old.catalog.now old.limits m (get_or octets count 0) ≡ leaves v (state_of new [] [])) × GaveOut takes (told fs ss) new v a b
