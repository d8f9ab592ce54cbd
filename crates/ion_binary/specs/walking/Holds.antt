-- What a reader that holds no values stands for: of the machine's state it knows all but the values and the annotations, which a visitor
-- was told.
use Rattle.std.specs.Prelude.{◌≡◌, ◌≢◌, ◌≤◌, ℕ, List, [], ◌∷◌, ◌++◌, map, reverse, Option, Some, None, Result, Ok, Err, Bool, true, false, ◌==◌, if◌then◌else◌}
use Rattle.std.specs.List.{flat_map}
use Rattle.ion_binary.specs.Names.Below.{BinaryWalk, Bracket, Container, Effect, Event, Field, Form, Gives, Goes, Hears, InBody, InMarker, InNumber, Memory, Payload, Phase, Purpose, Ready, Reason, TableFilter, Tells, Value, WasTold, annotation, events_of, field_events, heard, layer_events, name, out-Payload, part, resolve}
use Rattle.ion_visiting.specs.Events.{opens}
use Rattle.ion_binary.specs.machine.EachOctet.{Machine, Outcome, Setting, Spot, deliver, gives, goes, refuses, spot_at, under}
use Rattle.ion_binary.specs.machine.Frames.{Frame}
use Rattle.ion_binary.specs.machine.Frames as frames
use Rattle.ion_binary.specs.machine.Views.{body_so_far}
use Rattle.ion_binary.specs.visiting.Brackets.{bracket_of}

-- what a field's id stands for, or why it is none
abbrev pub Name : Type 0
Name = Result (Option (List ℕ)) Reason

-- 1. Containers.

-- what is kept of one
abbrev pub container_of : Frame → Container
container_of (frames.Items end x vs) = Container.Items end x
container_of (frames.Fields end ms) = Container.Fields end
container_of (frames.Named end ms n) = Container.Named end
container_of (frames.Annotated end ss) = Container.Annotated end

abbrev pub containers_of : List Frame → List Container
containers_of fs = map container_of fs

-- one with nothing in it; in a struct a field of this name comes next
abbrev pub shell : Name → Container → Frame
shell n (Container.Items end x) = frames.Items end x []
shell n (Container.Fields end) = frames.Fields end []
shell n (Container.Named end) = frames.Named end [] n
shell n (Container.Annotated end) = frames.Annotated end []

-- the innermost is no wrapper
abbrev pub HoldsNoWrapper : List Frame → Type 0
HoldsNoWrapper (frames.Annotated end ss ∷ fs) = ⊥
HoldsNoWrapper _ = Unit {0}

-- each of these is open around a value: a field's name has a symbol, and no wrapper holds a wrapper
abbrev pub AreAround : List Frame → Type 0
AreAround [] = Unit {0}
AreAround (frames.Named end ms (Err e) ∷ fs) = ⊥
AreAround (frames.Annotated end ss ∷ fs) = HoldsNoWrapper fs × AreAround fs
AreAround (_ ∷ fs) = AreAround fs

-- the same, but that the name of the innermost may have no symbol: a pad may come
abbrev pub AreOpen : List Frame → Type 0
AreOpen [] = Unit {0}
AreOpen (frames.Annotated end ss ∷ fs) = HoldsNoWrapper fs × AreAround fs
AreOpen (_ ∷ fs) = AreAround fs

-- the name of the next field is this one, if it came
abbrev pub IsNamedBy : Name → List Frame → Type 0
IsNamedBy n (frames.Named end ms m ∷ fs) = m ≡ n
IsNamedBy n _ = Unit {0}

-- no container is open
abbrev pub IsTop : List Frame → Type 0
IsTop [] = Unit {0}
IsTop (f ∷ fs) = ⊥

-- such containers are around a scalar, and none around a version marker
abbrev pub IsInside : Phase → List Frame → Type 0
IsInside (InBody t missing) fs = AreAround fs
IsInside (InMarker mark good) fs = IsTop fs
IsInside _ fs = Unit {0}

-- a value of this form, or a pad, may begin in them
abbrev pub MayBegin : Form → List Frame → Type 0
MayBegin Form.Pad fs = Unit {0}
MayBegin Form.Wrapper fs = HoldsNoWrapper fs × AreAround fs
MayBegin _ fs = AreAround fs

-- a payload with no value in it
abbrev pub IsPart : Payload → Type 0
IsPart p = layer_events (out-Payload p) ≡ part p ∷ []

-- a filter was told what a body is, which is a part
abbrev pub TellsAs : {V : Type 0} → (V → Event → V → Type 0) → Result Payload Reason → TableFilter → TableFilter → V → V → Type 0
TellsAs takes judged f g a b = (p : Payload) × (judged ≡ Ok p) × IsPart p × Tells takes (part p) f g a b

-- or the body is refused for this reason; unless memory ran out
abbrev pub RefusedAs : Result Payload Reason → Reason → Type 0
RefusedAs judged reason = reason ≢ Memory → judged ≡ Err reason

-- 2. What was told.

-- of containers around a value, the outermost first
abbrev pub told_in : List Frame → List Event
told_in (frames.Items end x vs ∷ fs) = told_in fs ++ opens (bracket_of x) ∷ flat_map events_of vs
told_in (frames.Fields end ms ∷ fs) = told_in fs ++ opens Bracket.Fields ∷ flat_map field_events ms
told_in (frames.Named end ms (Ok s) ∷ fs) = told_in fs ++ opens Bracket.Fields ∷ (flat_map field_events ms ++ name s ∷ [])
told_in (frames.Annotated end ss ∷ fs) = told_in fs ++ map annotation ss
told_in _ = []

-- before a value: the field's name isn't told until its value begins
abbrev pub told : List Frame → List Event
told [] = []
told (frames.Items end x vs ∷ fs) = told_in (frames.Items end x vs ∷ fs)
told (frames.Fields end ms ∷ fs) = told_in (frames.Fields end ms ∷ fs)
told (frames.Named end ms n ∷ fs) = told_in (frames.Fields end ms ∷ fs)
told (frames.Annotated end ss ∷ fs) = told_in (frames.Annotated end ss ∷ fs)

-- 3. Readers.

-- in memory the innermost of the open containers is the last
abbrev pub open_containers : BinaryWalk → List Container
open_containers r = reverse r.frames.items

-- the name that came last
abbrev pub name_of : BinaryWalk → Name
name_of r = resolve r.context r.name

-- its open containers with nothing in them
abbrev pub shells : BinaryWalk → List Frame
shells r = map (shell (name_of r)) (open_containers r)

-- what the innermost container is

-- a struct whose next field has a name
abbrev pub is_named : List Container → Bool
is_named (Container.Named end ∷ cs) = true
is_named _ = false

-- a struct where a name comes next: the octet at which it ends
abbrev pub fields_end : List Container → Option ℕ
fields_end (Container.Fields end ∷ cs) = Some end
fields_end _ = None

-- a struct where a name comes next, with so many octets of the document in it
abbrev pub IsWithin : List Container → ℕ → Type 0
IsWithin (Container.Fields end ∷ cs) to = to ≤ end
IsWithin _ to = ⊥

-- a list or an s-expression: the octet at which it ends
abbrev pub items_end : List Container → Option ℕ
items_end (Container.Items end x ∷ cs) = Some end
items_end _ = None

-- a struct where the value of a field comes next: the octet at which it ends
abbrev pub named_end : List Container → Option ℕ
named_end (Container.Named end ∷ cs) = Some end
named_end _ = None

-- a wrapper: the octet at which it ends
abbrev pub wrapper_end : List Container → Option ℕ
wrapper_end (Container.Annotated end ∷ cs) = Some end
wrapper_end _ = None

-- what comes behind an annotation that ends behind `used` octets, where the annotations end at the octet `stop`: another one, or the value
abbrev pub behind_annotation : ℕ → ℕ → Phase
behind_annotation used stop = if used == stop then Ready else InNumber (Purpose.Annotation stop) 0

-- A reader may stand for these containers: they are the open ones, and what there is to tell of them was told.
pub record Holds (r : BinaryWalk) (fs : List Frame) : Type 0 where
  pub containers : open_containers r ≡ containers_of fs
  pub named : IsNamedBy (name_of r) fs
  pub open_there : AreOpen fs
  pub inside : IsInside r.phase fs
  pub was_told : WasTold r.filter (told fs)

-- the containers around a value that was told and ended
abbrev pub IsBareIn : List Frame → Value → Type 0
IsBareIn (frames.Annotated end ss ∷ fs) v = v.annotations ≡ []
IsBareIn _ v = Unit {0}

pub record IsBehind (r : BinaryWalk) (fs : List Frame) (v : Value) : Type 0 where
  pub containers : open_containers r ≡ containers_of fs
  pub around : AreAround fs
  pub bare : IsBareIn fs v
  pub was_told : WasTold r.filter (told_in fs ++ events_of v)

-- the name of a field was told, while its struct waits for it
pub record IsTelling (r : BinaryWalk) (end : ℕ) (ms : List Field) (s : Option (List ℕ)) (fs : List Frame) : Type 0 where
  pub containers : open_containers r ≡ Container.Fields end ∷ containers_of fs
  pub around : AreAround fs
  pub phase : r.phase ≡ InNumber Purpose.FieldName 0
  pub was_told : WasTold r.filter (told_in (frames.Named end ms (Ok s) ∷ fs))

-- what stays of a reader
abbrev pub setting_of : BinaryWalk → Setting
setting_of r = under r.catalog.now r.limits

-- where a reader stands
abbrev pub spot_of : BinaryWalk → Spot
spot_of r = spot_at r.used r.start r.context

-- the machine that a reader stands for, with these containers
abbrev pub machine_of : BinaryWalk → List Frame → Machine
machine_of r fs = record { spot = spot_of r; frames = fs; phase = r.phase; body = body_so_far r.phase r.body }

-- a method did what the machine does, where so much was told before, and no visitor heard anything; unless memory ran out
abbrev pub DoesAlone : List Event → Outcome → Result Effect Reason → BinaryWalk → Type 0
DoesAlone es outcome (Ok Goes) r = (fs : List Frame) × (outcome ≡ goes (machine_of r fs)) × Holds r fs × (heard (told fs) ≡ heard es)
DoesAlone es outcome (Ok Gives) r = (v : Value) × (outcome ≡ gives v (machine_of r [])) × Holds r [] × (events_of v ≡ heard es)
DoesAlone es outcome (Err reason) r = reason ≢ Memory → outcome ≡ refuses reason

module _ {V : Type 0} (takes : V → Event → V → Type 0) (es : List Event) where
  -- It stands for these now, and a visitor that had heard what there was to hear heard what there is to hear.
  pub record WentOn (r : BinaryWalk) (fs : List Frame) (a b : V) : Type 0 where
    pub holds : Holds r fs
    pub hears : Hears takes (heard es) (heard (told fs)) a b

  -- no item is open, and the visitor heard a whole value
  pub record GaveOut (r : BinaryWalk) (v : Value) (a b : V) : Type 0 where
    pub holds : Holds r []
    pub hears : Hears takes (heard es) (events_of v) a b

  -- a value ended in these containers, of which the visitor heard
  pub record EndedIn (r : BinaryWalk) (fs : List Frame) (v : Value) (a b : V) : Type 0 where
    pub behind : IsBehind r fs v
    pub hears : Hears takes (heard es) (heard (told_in fs ++ events_of v)) a b

  -- a method did what the machine does, where so much was told before; unless memory ran out
  abbrev pub Does : Outcome → Result Effect Reason → BinaryWalk → V → V → Type 0
  Does outcome (Ok Goes) r a b = (fs : List Frame) × (outcome ≡ goes (machine_of r fs)) × WentOn r fs a b
  Does outcome (Ok Gives) r a b = (v : Value) × (outcome ≡ gives v (machine_of r [])) × GaveOut r v a b
  Does outcome (Err reason) r a b = reason ≢ Memory → outcome ≡ refuses reason

  -- the same where a container may have ended, which is a value now
  abbrev pub Closes : Outcome → Result Bool Reason → BinaryWalk → V → V → Type 0
  Closes outcome (Ok true) r a b = (fs : List Frame) × (v : Value) × (outcome ≡ deliver (setting_of r) (spot_of r) fs v) × EndedIn r fs v a b
  Closes outcome (Ok false) r a b = (fs : List Frame) × (outcome ≡ goes (machine_of r fs)) × WentOn r fs a b
  Closes outcome (Err reason) r a b = reason ≢ Memory → outcome ≡ refuses reason

module _ {V : Type 0} (takes : V → Event → V → Type 0) (old : BinaryWalk) (step : Setting → Spot → List Frame → Outcome) where
  -- a method did what this step of the machine does, whatever containers the reader stands for
  abbrev pub Steps : Result Effect Reason → BinaryWalk → V → V → Type 0
  Steps result new a b = (fs : List Frame) → Holds old fs → Does takes (told fs) (step (setting_of old) (spot_of old) fs) result new a b

  -- the same around a value
  abbrev pub StepsInside : Result Effect Reason → BinaryWalk → V → V → Type 0
  StepsInside result new a b =
      (fs : List Frame) → Holds old fs → AreAround fs → Does takes (told fs) (step (setting_of old) (spot_of old) fs) result new a b

-- the same where no visitor hears anything
abbrev pub StepsAlone : BinaryWalk → (Setting → Spot → List Frame → Outcome) → Result Effect Reason → BinaryWalk → Type 0
StepsAlone old step result new = (fs : List Frame) → Holds old fs → DoesAlone (told fs) (step (setting_of old) (spot_of old) fs) result new

-- what no octet changes
pub record SameSetting (old new : BinaryWalk) : Type 0 where
  pub catalog : new.catalog ≡ old.catalog
  pub limits : new.limits ≡ old.limits
  pub failed : new.failed ≡ old.failed

-- the same, and so many octets were used
pub record Moves (old new : BinaryWalk) (to : ℕ) : Type 0 where
  pub used : new.used ≡ to
  pub catalog : new.catalog ≡ old.catalog
  pub limits : new.limits ≡ old.limits
  pub failed : new.failed ≡ old.failed
