-- What octets and a machine have to do with one another.
use Rattle.std.specs.Prelude.{◌≡◌, ℕ, suc, ◌+◌, ◌^◌, ◌<◌, ◌≤◌, ◌⊎◌, Bool, true, false, ◌&&◌, ◌==◌, List, [], ◌∷◌, ◌++◌, length, None}
use Rattle.ion_binary.specs.Names.{Catalog, Decides, Digits128, Field, Fields, First, Follows, Form, Fourth, Frame, Header, Ids, InBody, InMarker, InNumber, InPad, Limits, Machine, Mark, Outcome, Phase, Pieces, Purpose, Ready, Second, Sequence, Sized, Slot, Third, Value, VarUInt, depths, end_of, field_depths, gives, goes, is_pad, levels, nameless, opening_of, positional, refuses, resolve, stray}
use Rattle.ion_binary.specs.machine.Frames as frames

-- an item of the top level may reach up to `to`; a pad may reach anywhere
abbrev pub TopRoom : ℕ → ℕ → Form → ℕ → Type 0
TopRoom item start form to = is_pad form ≡ false → to ≤ start + item

-- what has a header may reach up to `to`
abbrev pub HasRoom : Limits → ℕ → List Frame → Form → ℕ → Type 0
HasRoom l start (f ∷ fs) form to = to ≤ end_of f
HasRoom l start [] form to = TopRoom l.item start form to

-- the body of a form may end at `to`: a wrapper's value ends with it
abbrev pub BodyMayEnd : Limits → ℕ → List Frame → Form → ℕ → Type 0
BodyMayEnd l start [] form to = TopRoom l.item start form to
BodyMayEnd l start (frames.Annotated end ss ∷ fs) form to = to ≡ end
BodyMayEnd l start (frames.Items end x vs ∷ fs) form to = to ≤ end
BodyMayEnd l start (frames.Fields end ms ∷ fs) form to = to ≤ end
BodyMayEnd l start (frames.Named end ms name ∷ fs) form to = to ≤ end

-- a number in the innermost container may reach up to `to`
abbrev pub InRoom : List Frame → ℕ → Type 0
InRoom [] to = ⊥
InRoom (f ∷ fs) to = to ≤ end_of f

-- a VarUInt may reach up to `to`
abbrev pub NumberRoom : Limits → ℕ → List Frame → Purpose → ℕ → Type 0
NumberRoom l start fs (Purpose.Length form) to = HasRoom l start fs form to
NumberRoom l start fs (Purpose.Annotation stop) to = to ≤ stop
NumberRoom l start fs _ to = InRoom fs to

-- a descriptor may come
abbrev pub Receives : List Frame → Type 0
Receives (frames.Fields end ms ∷ fs) = ⊥
Receives _ = Unit {0}

-- so many octets end inside of the innermost container
abbrev pub Inside : List Frame → ℕ → Type 0
Inside [] n = Unit {0}
Inside (f ∷ fs) n = n < end_of f

-- a form may stand here
pub record Fitting (fs : List Frame) (form : Form) : Type 0 where
  pub receives : Receives fs
  pub fitting : stray fs form ≡ None
  pub named : nameless fs form ≡ None

-- a header of an open container, behind octets that Outer describes
pub record Box (l : Limits) (start : ℕ) (Outer : List ℕ → Type 0) (fs : List Frame) (form : Form) (end : ℕ) (u : List ℕ) : Type 0 where
  pub before : List ℕ
  pub header : List ℕ
  pub n : ℕ
  pub whole : u ≡ before ++ header
  pub outer : Outer before
  pub head : Header form n header
  pub ends : end ≡ length u + n
  pub room : BodyMayEnd l start fs form end
  pub admits : Fitting fs form

-- the form is that of a struct of n octets
abbrev pub IsStructOf : Form → ℕ → Type 0
IsStructOf Form.Struct n = Unit {0}
IsStructOf Form.OrderedStruct n = 0 < n
IsStructOf _ n = ⊥

-- a struct's header, and fields
pub record InFields (l : Limits) (start : ℕ) (c : List Slot) (Outer : List ℕ → Type 0) (fs : List Frame) (end : ℕ) (ms : List Field) (u : List ℕ) : Type 0 where
  pub front : List ℕ
  pub body : List ℕ
  pub form : Form
  pub whole : u ≡ front ++ body
  pub box : Box l start Outer fs form end front
  pub kind : IsStructOf form box.n
  pub items : Fields c body ms
  pub deep : field_depths ms + suc (levels fs) ≤ l.depth
  pub within : length u ≤ end

-- no wrapper is innermost
abbrev pub IsBare : List Frame → Type 0
IsBare (frames.Annotated end ss ∷ fs) = ⊥
IsBare _ = Unit {0}

-- u is whole pieces, and then what has come of the open containers
abbrev pub Opened : Catalog → Limits → ℕ → List Slot → List Value → List Frame → List ℕ → Type 0
Opened g l start c s [] u = Pieces g l u s c × (length u ≡ start)
Opened g l start c s (frames.Items end x vs ∷ fs) u =
    record {
      front : List ℕ;
      body : List ℕ;
      whole : u ≡ front ++ body;
      box : Box l start (Opened g l start c s fs) fs (Form.ListOrSexp x) end front;
      items : Sequence c body vs;
      deep : depths vs + suc (levels fs) ≤ l.depth;
      within : length u ≤ end;
    }
Opened g l start c s (frames.Fields end ms ∷ fs) u = InFields l start c (Opened g l start c s fs) fs end ms u
Opened g l start c s (frames.Named end ms name ∷ fs) u =
    record {
      front : List ℕ;
      id : List ℕ;
      k : ℕ;
      whole : u ≡ front ++ id;
      inside : InFields l start c (Opened g l start c s fs) fs end ms front;
      number : VarUInt id k;
      named : name ≡ resolve c k;
      within : length u < end;
    }
Opened g l start c s (frames.Annotated end ss ∷ fs) u =
    record {
      front : List ℕ;
      count : List ℕ;
      ids : List ℕ;
      whole : u ≡ front ++ (count ++ ids);
      box : Box l start (Opened g l start c s fs) fs Form.Wrapper end front;
      bare : IsBare fs;
      number : VarUInt count (length ids);
      some : 0 < length ids;
      symbols : Ids c ids ss;
      within : length u < end;
    }

-- what a form asks of the frames in which it stands
abbrev pub Accepts : Form → List Frame → Type 0
Accepts Form.Pad fs = Receives fs × IsBare fs
Accepts Form.Wrapper fs = IsBare fs
Accepts _ fs = Unit {0}

-- where a descriptor comes next
pub record AwaitsDescriptor (g : Catalog) (l : Limits) (start : ℕ) (c : List Slot) (s : List Value) (fs : List Frame) (u : List ℕ) : Type 0 where
  pub opened : Opened g l start c s fs u
  pub receives : Receives fs
  pub more : Inside fs (length u)

-- the octets of pieces, or none at all
abbrev pub Front : Catalog → Limits → ℕ → List Slot → List Value → List ℕ → Type 0
Front g l start c s u = ((u ≡ []) × (s ≡ []) × (start ≡ 0)) ⊎ (Pieces g l u s c × (length u ≡ start))

-- the octets of a marker that came, and whether they are good
abbrev pub MarkCame : Mark → Bool → List ℕ → Type 0
MarkCame First good w = (w ≡ []) × (good ≡ true)
MarkCame Second good w = (w ≡ 224 ∷ []) × (good ≡ true)
MarkCame Third good w = (x : ℕ) × (w ≡ 224 ∷ x ∷ []) × (good ≡ (true && (x == 1)))
MarkCame Fourth good w = (x y : ℕ) × (w ≡ 224 ∷ x ∷ y ∷ []) × (good ≡ ((true && (x == 1)) && (y == 0)))

-- where the first octet of a marker is awaited, no octet came before it
abbrev pub AtFirst : Mark → List ℕ → Type 0
AtFirst First before = before ≡ []
AtFirst _ before = Unit {0}

-- in a version marker, behind pieces or none yet
pub record MarkerStands (g : Catalog) (l : Limits) (start : ℕ) (c : List Slot) (s : List Value) (fs : List Frame) (m : Mark) (good : Bool) (u : List ℕ) : Type
    0 where
  pub before : List ℕ
  pub came : List ℕ
  pub whole : u ≡ before ++ came
  pub front : Front g l start c s before
  pub top : fs ≡ []
  pub octets : MarkCame m good came
  pub first : AtFirst m before

-- a header may go on behind `used` octets
abbrev pub Going : Limits → ℕ → List Frame → Form → ℕ → Type 0
Going l start (f ∷ fs) form used = used < end_of f
Going l start [] form used = TopRoom l.item start form used

-- a VarUInt may
abbrev pub NumberGoing : Limits → ℕ → List Frame → Purpose → ℕ → Type 0
NumberGoing l start fs (Purpose.Length form) used = Going l start fs form used
NumberGoing l start fs (Purpose.Annotation stop) used = used < stop
NumberGoing l start fs _ used = Inside fs used

-- the octets that end before a VarUInt, by what it stands for
abbrev pub NumberBegins : Catalog → Limits → ℕ → List Slot → List Value → List Frame → Purpose → List ℕ → Type 0
NumberBegins g l start c s fs (Purpose.Length form) u =
    record {
      before : List ℕ;
      b : ℕ;
      whole : u ≡ before ++ b ∷ [];
      outer : Opened g l start c s fs before;
      accepts : Accepts form fs;
      admits : Fitting fs form;
      more : Inside fs (length before);
      head : opening_of b ≡ Sized form Follows;
    }
NumberBegins g l start c s (frames.Fields end ms ∷ fs) Purpose.FieldName u = InFields l start c (Opened g l start c s fs) fs end ms u
NumberBegins g l start c s (frames.Annotated end ss ∷ fs) Purpose.AnnotationsLength u =
    record { box : Box l start (Opened g l start c s fs) fs Form.Wrapper end u; bare : IsBare fs; none_yet : ss ≡ [] }
NumberBegins g l start c s (frames.Annotated end ss ∷ fs) (Purpose.Annotation stop) u =
    record {
      front : List ℕ;
      count : List ℕ;
      ids : List ℕ;
      n : ℕ;
      whole : u ≡ front ++ (count ++ ids);
      box : Box l start (Opened g l start c s fs) fs Form.Wrapper end front;
      bare : IsBare fs;
      number : VarUInt count n;
      some : 0 < n;
      stops : stop ≡ length front + length count + n;
      symbols : Ids c ids ss;
      room : stop < end;
    }
NumberBegins g l start c s _ _ u = ⊥

-- in a VarUInt, whose octets so far make a
pub record NumberStands (g : Catalog) (l : Limits) (start : ℕ) (c : List Slot) (s : List Value) (fs : List Frame) (p : Purpose) (a : ℕ) (u : List ℕ) : Type
    0 where
  pub front : List ℕ
  pub digits : List ℕ
  pub whole : u ≡ front ++ digits
  pub begins : NumberBegins g l start c s fs p front
  pub small : Digits128 digits
  pub value : a ≡ positional 128 digits
  pub bound : a < 2 ^ 63
  pub going : NumberGoing l start fs p (length u)

-- in a body of which `came` has come
pub record BodyStands (g : Catalog) (l : Limits) (start : ℕ) (c : List Slot) (s : List Value) (fs : List Frame) (form : Form) (n : ℕ) (came : List ℕ)
    (u : List ℕ) : Type 0 where
  pub before : List ℕ
  pub header : List ℕ
  pub whole : u ≡ before ++ (header ++ came)
  pub outer : Opened g l start c s fs before
  pub accepts : Accepts form fs
  pub admits : Fitting fs form
  pub size : ℕ
  pub sizes : size ≡ length came + suc n
  pub end : ℕ
  pub ends : end ≡ length before + length header + size
  pub head : Header form size header
  pub room : BodyMayEnd l start fs form end

-- what the octets are, by the machine's phase
abbrev pub Standing : Catalog → Limits → ℕ → List Slot → List Value → List Frame → List ℕ → Phase → List ℕ → Type 0
Standing g l start c s fs body (InMarker m good) u = MarkerStands g l start c s fs m good u
Standing g l start c s fs body Ready u = AwaitsDescriptor g l start c s fs u
Standing g l start c s fs body (InNumber p a) u = NumberStands g l start c s fs p a u
Standing g l start c s fs body (InBody t n) u = BodyStands g l start c s fs (Form.Scalar t) n body u
Standing g l start c s fs body (InPad n) u = (came : List ℕ) × BodyStands g l start c s fs Form.Pad n came u

-- u gave s and led to m
pub record MachineStands (g : Catalog) (l : Limits) (u : List ℕ) (s : List Value) (m : Machine) : Type 0 where
  pub used : m.spot.used ≡ length u
  pub standing : Standing g l m.spot.start m.spot.context s m.frames m.body m.phase u

-- what an outcome leaves stands for the octets, and for a refusal there is a row
abbrev pub Leaves : Catalog → Limits → List ℕ → List Value → Outcome → Type 0
Leaves g l u s (goes m) = MachineStands g l u s m
Leaves g l u s (gives v m) = MachineStands g l u (s ++ v ∷ []) m
Leaves g l u s (refuses e) = Decides g l u e
