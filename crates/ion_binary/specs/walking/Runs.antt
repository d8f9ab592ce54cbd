-- What a reader that holds no values did over octets: what a run of the machine does, for all containers that it may stand for.
use Rattle.std.specs.Prelude.{◌≡◌, ◌≢◌, ◌<◌, ◌≤◌, ℕ, ◌+◌, ◌-◌, ◌^◌, List, [], ◌∷◌, length, take, drop, Bool, true, false, Option, None, Result, Ok, Err}
use Rattle.ion_binary.specs.Names.Below.{BinaryWalk, Effect, Event, Form, Gives, Goes, InNumber, Memory, Purpose, Ready, Reason, Refusal, Value, VarUInt, Walked, heard}
use Rattle.ion_binary.specs.Grammar.{Header}
use Rattle.ion_binary.specs.declared.walking.whole_leaves.WholeLeaf.{WholeLeaf}
use Rattle.ion_binary.specs.declared.walking.whole_wrappers.Note.{Note}
use Rattle.ion_binary.specs.machine.EachOctet.{hollow, initial, unfit}
use Rattle.ion_binary.specs.machine.Frames.{Frame}
use Rattle.ion_binary.specs.machine.Pieces.{led}
use Rattle.ion_binary.specs.machine.Run.{Run, run}
use Rattle.ion_binary.specs.machine.Views.{body_so_far}
use Rattle.ion_binary.specs.walking.Leaves.{HasLeaf}
use Rattle.ion_binary.specs.walking.Holds.{GaveOut, Holds, IsWithin, WentOn, machine_of, open_containers, shells, told}

-- the run over octets of the machine that a reader stands for, with these containers
abbrev pub run_of : BinaryWalk → List Frame → List ℕ → Run
run_of r fs w = run r.catalog.now r.limits r.used (machine_of r fs) w

-- a run that gave this value with the last of `to` octets
abbrev pub gave : Value → ℕ → BinaryWalk → Run
gave v to r = record { given = (v, to) ∷ []; now = Ok (machine_of r []) }

-- a run that was refused
abbrev pub refused_at : Refusal → Run
refused_at refusal = record { given = []; now = Err refusal }

-- at the front of a piece lies the header of this form with a body of `size` octets, which may stand where the reader is
pub record Opens (r : BinaryWalk) (piece : List ℕ) (form : Form) (front size : ℕ) : Type 0 where
  pub ready : r.phase ≡ Ready
  pub some : 0 < front
  pub within : front ≤ length piece
  pub small : size < 2 ^ 63
  pub header : Header form size (take front piece)
  pub full : hollow form size ≡ None
  pub fits : None ≡ unfit r.limits.item r.start (shells r) form (r.used + front + size)

-- at the front of a piece lies the id of a field's name, of `size` octets, where one comes
pub record HasName (r : BinaryWalk) (piece : List ℕ) (id size : ℕ) : Type 0 where
  pub phase : r.phase ≡ InNumber Purpose.FieldName 0
  pub is : VarUInt (take size piece) id
  pub some : 0 < size
  pub within : size ≤ length piece
  pub inside : IsWithin (open_containers r) (r.used + size)

-- behind `named` octets of a piece lies a leaf, which ends before this octet or at it
abbrev pub HasField : BinaryWalk → ℕ → List ℕ → ℕ → WholeLeaf → Type 0
HasField r end piece named field = HasLeaf piece named field × (r.used + field.to ≤ end)

-- at the front of a piece lies a leaf, which ends before this octet
abbrev pub HasItem : BinaryWalk → ℕ → List ℕ → WholeLeaf → Type 0
HasItem r end piece item = HasLeaf piece 0 item × (r.used + item.to < end)

-- behind `front` octets of a piece, which are the header of a wrapper whose body has `size` octets, lies its only annotation
pub record HasNote (piece : List ℕ) (front size : ℕ) (note : Note) : Type 0 where
  pub behind : front ≤ note.id_at
  pub few : note.id_at ≤ note.to
  pub within : note.to ≤ length piece
  pub count : VarUInt (take (note.id_at - front) (drop front piece)) (note.to - note.id_at)
  pub is : VarUInt (take (note.to - note.id_at) (drop note.id_at piece)) note.id
  pub inside : note.to < front + size

-- the run led where the reader stands for these containers
abbrev pub Led : Run → BinaryWalk → List Frame → Type 0
Led ran r fs = (ran ≡ led (machine_of r fs)) × Holds r fs

-- one octet of a piece at least was counted, and none behind the piece
abbrev pub CountsOn : ℕ → ℕ → List ℕ → Type 0
CountsOn from to piece = (from < to) × (to ≤ from + length piece)

-- so it was where memory didn't run out
abbrev pub TakesUp : ℕ → ℕ → List ℕ → Result Effect Reason → Type 0
TakesUp from to piece (Ok effect) = CountsOn from to piece
TakesUp from to piece (Err reason) = reason ≢ Memory → CountsOn from to piece

module _ {V : Type 0} (takes : V → Event → V → Type 0) (es : List Event) where
  -- a run over `to` octets ended where the reader is, and a visitor heard what there is to hear
  abbrev pub Reached : Run → ℕ → Effect → BinaryWalk → V → V → Type 0
  Reached ran to Goes r a b = (fs : List Frame) × (ran ≡ led (machine_of r fs)) × WentOn takes es r fs a b
  Reached ran to Gives r a b = (v : Value) × (ran ≡ gave v to r) × GaveOut takes es r v a b

  -- over octets at the front of a piece, as many as a reader counts, a method did what a run over them does, unless memory ran out
  abbrev pub Took : ℕ → (List ℕ → Run) → List ℕ → Result Effect Reason → BinaryWalk → V → V → Type 0
  Took to run piece (Ok effect) r a b = Reached (run (take (r.used - to) piece)) r.used effect r a b
  Took to run piece (Err reason) r a b = reason ≢ Memory → run piece ≡ refused_at (record { offset = r.used; reason = reason })

  -- over this piece a walk did what a run from here does, up to the first value, unless memory ran out
  abbrev pub Walks : ℕ → (List ℕ → Run) → List ℕ → Result Walked Refusal → BinaryWalk → V → V → Type 0
  Walks to run piece (Ok walked) r a b = (walked.used ≤ length piece) × Stopped walked.ended
    where
      Stopped : Bool → Type 0
      Stopped false = (walked.used ≡ length piece) × Reached (run piece) (to + walked.used) Goes r a b
      Stopped true = (0 < walked.used) × Reached (run (take walked.used piece)) (to + walked.used) Gives r a b
  Walks to run piece (Err refusal) r a b = refusal.reason ≢ Memory → run piece ≡ refused_at refusal

-- so it did, whatever containers the reader stands for
abbrev pub Reads : {V : Type 0} → (V → Event → V → Type 0) → BinaryWalk → List ℕ → Result Effect Reason → BinaryWalk → V → V → Type 0
Reads takes old piece result new a b = (fs : List Frame) → Holds old fs → Took takes (told fs) old.used (run_of old fs) piece result new a b

-- The run over these octets gave these values, and ended where the reader may stand for these containers.
pub record StandsFor (r : BinaryWalk) (octets : List ℕ) (values : List (Value × ℕ)) (fs : List Frame) : Type 0 where
  pub fine : r.failed ≡ None
  pub counted : r.used ≡ length octets
  pub holds : Holds r fs
  pub ran : run r.catalog.now r.limits 0 initial octets ≡ record { given = values; now = Ok (machine_of r fs) }

-- The same of some containers, and these are the events that there are to hear of what is open.
abbrev pub Told : BinaryWalk → List ℕ → List (Value × ℕ) → List Event → Type 0
Told r u s es = (fs : List Frame) × StandsFor r u s fs × (es ≡ heard (told fs))

-- what contracts see of a reader besides, as `Items` names it

abbrev pub taken : BinaryWalk → ℕ
taken r = r.used

abbrev pub failed : BinaryWalk → Option Refusal
failed r = r.failed

-- no octet shows the end of a value and isn't used
abbrev pub awaits : BinaryWalk → Option ℕ
awaits r = None

-- and none ends more than one
abbrev pub pending : BinaryWalk → ℕ
pending r = 0

-- the octets of a scalar's body so far
abbrev pub kept : BinaryWalk → ℕ
kept r = length (body_so_far r.phase r.body)
