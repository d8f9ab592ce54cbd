-- What a reader that holds no values stands for: of the machine's state it knows all but the values and the annotations, which a visitor
-- was told.
use Rattle.std.specs.Prelude.{◌≡◌, ◌≢◌, ℕ, Option, Some, None, List, [], ◌∷◌, ◌++◌, map, reverse, Result, Ok, Err, Bool, true, false}
use Rattle.std.specs.List.{flat_map}
use Rattle.ion_text.specs.Names.Below.{Bracket, Event, Frame, Gives, Goes, Hears, Late, ListOrSexp, Memory, Reason, Stage, TextWalk, Turned, Value, WasTold, annotation, events_of, field_events, heard, name, opens, scanned}
use Rattle.ion_text.specs.machine.EachToken.{Reading, Setting, Spot, Symbols, Turn, at, first_now, gives, goes, late, opened, refuses, spot_at, under}
use Rattle.ion_text.specs.machine.Run.{State}

-- the brackets of containers

abbrev pub bracket_for : ListOrSexp → Bracket
bracket_for ListOrSexp.List = Bracket.List
bracket_for ListOrSexp.Sexp = Bracket.Sexp

abbrev pub bracket_of : Frame → Bracket
bracket_of (Frame.Items listing ss vs) = bracket_for listing
bracket_of (Frame.Fields ss ms) = Bracket.Fields
bracket_of (Frame.Named ss ms s) = Bracket.Fields

abbrev pub brackets_of : List Frame → List Bracket
brackets_of fs = map bracket_of fs

-- some annotation was read
abbrev pub has_notes : Symbols → Bool
has_notes [] = false
has_notes (s ∷ ss) = true

-- what may come next, where nothing waits any more
abbrev pub calm : Stage → Stage
calm Stage.Ready = Stage.Ready
calm (Stage.Pending h end) = Stage.Ready
calm (Stage.Long w end) = Stage.Ready
calm Stage.After = Stage.After
calm Stage.Name = Stage.Name
calm (Stage.LongName w) = Stage.Name
calm (Stage.Keyed s) = Stage.Name

-- each of these containers is open around a value: of a struct the field's name came
abbrev pub AreAround : List Frame → Type 0
AreAround [] = Unit {0}
AreAround (Frame.Items listing ss vs ∷ fs) = AreAround fs
AreAround (Frame.Named ss ms s ∷ fs) = AreAround fs
AreAround (Frame.Fields ss ms ∷ fs) = ⊥

-- where this may come next, such containers are open, and such annotations were read
abbrev pub AreOpen : List Frame → Symbols → Stage → Type 0
AreOpen fs ss Stage.Ready = AreAround fs
AreOpen (Frame.Items ListOrSexp.List _ _ ∷ fs) [] Stage.After = AreAround fs
AreOpen (Frame.Fields _ _ ∷ fs) [] Stage.After = AreAround fs
AreOpen (Frame.Fields _ _ ∷ fs) [] Stage.Name = AreAround fs
AreOpen _ _ _ = ⊥

-- what was told of open containers, the outermost first
abbrev pub told_in : List Frame → List Event
told_in [] = []
told_in (Frame.Items listing ss vs ∷ fs) = told_in fs ++ (map annotation ss ++ opens (bracket_for listing) ∷ flat_map events_of vs)
told_in (Frame.Fields ss ms ∷ fs) = told_in fs ++ (map annotation ss ++ opens Bracket.Fields ∷ flat_map field_events ms)
told_in (Frame.Named ss ms s ∷ fs) = told_in fs ++ (map annotation ss ++ opens Bracket.Fields ∷ (flat_map field_events ms ++ name s ∷ []))

-- and of the annotations behind them
abbrev pub told : List Frame → Symbols → List Event
told fs ss = told_in fs ++ map annotation ss

-- Such brackets are open and such annotations were read, where this may come next.
pub record IsShape (bs : List Bracket) (noted : Bool) (now : Stage) (fs : List Frame) (ss : Symbols) : Type 0 where
  pub frames : bs ≡ brackets_of fs
  pub notes : noted ≡ has_notes ss
  pub open_there : AreOpen fs ss now

-- in memory the innermost of the open containers is the last
abbrev pub open_brackets : TextWalk → List Bracket
open_brackets r = reverse r.frames.items

-- A reader may stand for these containers and annotations: they are of its shape, and their events were told.
abbrev pub Holds : TextWalk → List Frame → Symbols → Type 0
Holds r fs ss = IsShape (open_brackets r) r.noted (calm r.stage) fs ss × WasTold r.filter (told fs ss)

-- with these containers and annotations the machine has of a reader
abbrev pub reading_of : TextWalk → List Frame → Symbols → Reading
reading_of r fs ss = at r.start r.context fs ss r.stage

abbrev pub state_of : TextWalk → List Frame → Symbols → State
state_of r fs ss = record { scan = scanned r.scanner; reading = reading_of r fs ss }

-- what stays of a reader
abbrev pub setting_of : TextWalk → Setting
setting_of r = under r.catalog.now r.limits

-- a token of the open item of a reader ends at `end`
abbrev pub spot_of : TextWalk → ℕ → Spot
spot_of r end = spot_at end r.start r.context

-- a method did what the machine does, where so much was told before, and no visitor heard anything; unless memory ran out
abbrev pub DoesAlone : List Event → Turn → Result Turned Reason → TextWalk → Type 0
DoesAlone es turn (Ok Goes) r = (fs : List Frame) × (ss : Symbols) × (turn ≡ goes (reading_of r fs ss)) × Holds r fs ss × (heard (told fs ss) ≡ heard es)
DoesAlone es turn (Ok Gives) r = (v : Value) × (turn ≡ gives v (reading_of r [] [])) × Holds r [] [] × (events_of v ≡ heard es)
DoesAlone es turn (Ok (Late e)) r = (fs : List Frame) × (ss : Symbols) × (turn ≡ late e (reading_of r fs ss)) × Holds r fs ss × (heard (told fs ss) ≡ heard es)
DoesAlone es turn (Err reason) r = reason ≢ Memory → turn ≡ refuses reason

module _ {V : Type 0} (takes : V → Event → V → Type 0) (es : List Event) where
  -- It stands for these now, and a visitor that had heard what there was to hear heard what there is to hear.
  pub record WentOn (r : TextWalk) (fs : List Frame) (ss : Symbols) (a b : V) : Type 0 where
    pub holds : Holds r fs ss
    pub hears : Hears takes (heard es) (heard (told fs ss)) a b

  -- no item is open, and the visitor heard a whole value
  pub record GaveOut (r : TextWalk) (v : Value) (a b : V) : Type 0 where
    pub holds : Holds r [] []
    pub hears : Hears takes (heard es) (events_of v) a b

  -- a method did what the machine does, where so much was told before; unless memory ran out
  abbrev pub Does : Turn → Result Turned Reason → TextWalk → V → V → Type 0
  Does turn (Ok Goes) r a b = (fs : List Frame) × (ss : Symbols) × (turn ≡ goes (reading_of r fs ss)) × WentOn r fs ss a b
  Does turn (Ok Gives) r a b = (v : Value) × (turn ≡ gives v (reading_of r [] [])) × GaveOut r v a b
  Does turn (Ok (Late e)) r a b = (fs : List Frame) × (ss : Symbols) × (turn ≡ late e (reading_of r fs ss)) × WentOn r fs ss a b
  Does turn (Err reason) r a b = reason ≢ Memory → turn ≡ refuses reason

-- a container was opened, and stands for this one among those that the reader stood for
pub record Enters {V : Type 0} (takes : V → Event → V → Type 0) (b : Bracket) (old new : TextWalk) (fs : List Frame) (ss : Symbols) (a z : V) : Type 0 where
  pub went : WentOn takes (told fs ss) new (opened b ss ∷ fs) [] a z
  pub reading : at old.start old.context (opened b ss ∷ fs) [] (first_now b) ≡ reading_of new (opened b ss ∷ fs) []

-- what no token changes
pub record SameSetting (old new : TextWalk) : Type 0 where
  pub catalog : new.catalog ≡ old.catalog
  pub limits : new.limits ≡ old.limits
  pub scanner : new.scanner ≡ old.scanner
  pub awaited : new.awaited ≡ old.awaited
  pub failed : new.failed ≡ old.failed

-- what no token changes, and what is told but once it ends
pub record SamePlace (old new : TextWalk) : Type 0 where
  pub setting : SameSetting old new
  pub start : new.start ≡ old.start
  pub context : new.context ≡ old.context

-- some container is open
abbrev pub is_inside : List Bracket → Bool
is_inside [] = false
is_inside (b ∷ bs) = true

-- what may come behind a value in the innermost of these containers
abbrev pub behind_value : List Bracket → Stage
behind_value (Bracket.Sexp ∷ bs) = Stage.Ready
behind_value _ = Stage.After

-- where this may come next, a close of such a container may come, if one is open
abbrev pub MayClose : Bracket → Stage → Type 0
MayClose Bracket.Fields Stage.Ready = ⊥
MayClose _ _ = Unit {0}

abbrev pub is_same : Bracket → Bracket → Bool
is_same Bracket.List Bracket.List = true
is_same Bracket.Sexp Bracket.Sexp = true
is_same Bracket.Fields Bracket.Fields = true
is_same _ _ = false

-- a close of such a container closes the innermost of these
abbrev pub closes_in : Bracket → List Bracket → Bool
closes_in b [] = false
closes_in b (x ∷ xs) = is_same b x

-- what may come behind a comma, where one may stand behind a value
abbrev pub behind_comma : List Bracket → Option Stage
behind_comma (Bracket.List ∷ bs) = Some Stage.Ready
behind_comma (Bracket.Fields ∷ bs) = Some Stage.Name
behind_comma _ = None
