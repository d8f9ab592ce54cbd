-- The reader as a machine: what each octet does. `used` counts the octets so far, this one with them.
use Rattle.std.specs.Prelude.{ℕ, suc, ◌+◌, ◌-◌, ◌*◌, ◌^◌, Bool, true, ◌&&◌, ◌||◌, List, [], ◌∷◌, ◌++◌, ◌==◌, nat_lt, nat_le, if◌then◌else◌, Result, Ok, Err, Option, Some, None}
use Rattle.ion_binary.specs.Names.Below.{Catalog, Depth, First, Follows, Form, Fourth, InBody, InMarker, InNumber, InPad, ItemTooLong, Known, Limits, Malformed, Mark, Marker, Null, Opening, Payload, Phase, Purpose, Ready, Reason, Refused, Scalar, Second, Sized, Slot, Third, TooLarge, Truth, Value, Version, annotated, bare, field_of, is_table, next, resolve, system_slots}
use Rattle.ion_model.specs.declared.value.Payload.TheVariants as payloads
use Rattle.ion_binary.specs.Grammar.{listed}
use Rattle.ion_binary.specs.Judge.{judge}
use Rattle.ion_binary.specs.Opening.{is_pad, is_wrapper, opening_of}
use Rattle.ion_binary.specs.machine.Frames.{Frame}
use Rattle.ion_binary.specs.machine.Frames as frames

-- what stays: the shared tables that a document may import, and how much may come
pub record Setting : Type 0 where
  pub catalog : Catalog
  pub limits : Limits

-- `used` octets were taken up, the open piece of the top level begins at `start`,
-- `context` are the slots of symbol ids there
pub record Spot : Type 0 where
  pub used : ℕ
  pub start : ℕ
  pub context : List Slot

-- where it stands, with `frames` the open containers, the innermost first, and `body` the octets of a scalar so far
pub record Machine : Type 0 where
  pub spot : Spot
  pub frames : List Frame
  pub phase : Phase
  pub body : List ℕ

-- what comes of an octet: the reader goes on, a value is given, or it is refused
pub data Outcome : Type 0 where
  goes : Machine → Outcome
  gives : Value → Machine → Outcome
  refuses : Reason → Outcome

-- the catalog and the limits, together
abbrev pub under : Catalog → Limits → Setting
under g l = record { catalog = g; limits = l }

-- where it stands, part by part
abbrev pub spot_at : ℕ → ℕ → List Slot → Spot
spot_at used start c = record { used = used; start = start; context = c }

-- up to `used` octets in the same piece
abbrev pub moved : Spot → ℕ → Spot
moved spot used = record spot { used = used }

-- a piece of the top level begins behind `used` octets
abbrev pub anew : ℕ → List Slot → Spot
anew used c = spot_at used used c

-- in a phase that keeps no octets
abbrev pub at : Spot → List Frame → Phase → Machine
at spot fs phase = record { spot = spot; frames = fs; phase = phase; body = [] }

-- in a scalar, with octets of its body so far, and so many missing behind the next
abbrev pub in_body : Spot → List Frame → Scalar → ℕ → List ℕ → Machine
in_body spot fs t missing body = record { spot = spot; frames = fs; phase = InBody t missing; body = body }

-- before any octet
abbrev pub initial : Machine
initial = at (anew 0 system_slots) [] (InMarker First true)

-- the octet at which a container ends
abbrev pub end_of : Frame → ℕ
end_of (frames.Items end x vs) = end
end_of (frames.Fields end ms) = end
end_of (frames.Named end ms name) = end
end_of (frames.Annotated end ss) = end

-- how many lists, s-expressions and structs are open
abbrev pub levels : List Frame → ℕ
levels [] = 0
levels (frames.Annotated end ss ∷ fs) = levels fs
levels (_ ∷ fs) = suc (levels fs)

-- behind a local symbol table
abbrev pub turned : ℕ → Result (List Slot) Reason → Outcome
turned used (Ok d) = goes (at (anew used d) [] Ready)
turned used (Err e) = refuses e

-- a value ends here, and with it each container that ends here
abbrev pub deliver : Setting → Spot → List Frame → Value → Outcome
deliver setting spot [] v =
    if is_table v then turned spot.used (next spot.context v setting.catalog)
    else gives v (at (anew spot.used spot.context) [] Ready)
deliver setting spot (frames.Items end x vs ∷ fs) v =
    if spot.used == end then deliver setting spot fs (bare (listed x (vs ++ v ∷ [])))
    else goes (at spot (frames.Items end x (vs ++ v ∷ []) ∷ fs) Ready)
deliver setting spot (frames.Fields end ms ∷ fs) v = refuses Malformed
deliver setting spot (frames.Named end ms (Ok s) ∷ fs) v =
    if spot.used == end then deliver setting spot fs (bare (payloads.Fields (ms ++ field_of s v ∷ [])))
    else goes (at spot (frames.Fields end (ms ++ field_of s v ∷ []) ∷ fs) (InNumber Purpose.FieldName 0))
deliver setting spot (frames.Named end ms (Err e) ∷ fs) v = refuses e
deliver setting spot (frames.Annotated end ss ∷ fs) v = deliver setting spot fs (annotated ss v.payload)

-- what is no value ends here, or a container begins here; a struct goes on with the next field name
abbrev pub proceed : Setting → Spot → List Frame → Outcome
proceed setting spot [] = goes (at (anew spot.used spot.context) [] Ready)
proceed setting spot (frames.Items end x vs ∷ fs) =
    if spot.used == end then deliver setting spot fs (bare (listed x vs))
    else goes (at spot (frames.Items end x vs ∷ fs) Ready)
proceed setting spot (frames.Fields end ms ∷ fs) =
    if spot.used == end then deliver setting spot fs (bare (payloads.Fields ms))
    else goes (at spot (frames.Fields end ms ∷ fs) (InNumber Purpose.FieldName 0))
proceed setting spot (frames.Named end ms name ∷ fs) =
    if spot.used == end then deliver setting spot fs (bare (payloads.Fields ms))
    else goes (at spot (frames.Fields end ms ∷ fs) (InNumber Purpose.FieldName 0))
proceed setting spot (frames.Annotated end ss ∷ fs) = refuses Malformed

-- a refusal, if there is a reason, or else what comes
abbrev pub unless : Option Reason → Outcome → Outcome
unless None r = r
unless (Some e) r = refuses e

-- the first of two reasons
abbrev pub or_else : Option Reason → Option Reason → Option Reason
or_else None o = o
or_else (Some e) o = Some e

-- why an item of the top level may not reach up to here; a pad has no limit
abbrev pub too_long : ℕ → ℕ → Form → ℕ → Option Reason
too_long item start form to = if is_pad form || nat_le to (start + item) then None else Some ItemTooLong

-- why the body of a form may not end here: a wrapper's value fills it
abbrev pub misfits : ℕ → ℕ → List Frame → Form → ℕ → Option Reason
misfits item start [] form to = too_long item start form to
misfits item start (frames.Annotated end ss ∷ fs) form to = if to == end then None else Some Malformed
misfits item start (frames.Items end x vs ∷ fs) form to = if nat_le to end then None else Some Malformed
misfits item start (frames.Fields end ms ∷ fs) form to = if nat_le to end then None else Some Malformed
misfits item start (frames.Named end ms name ∷ fs) form to = if nat_le to end then None else Some Malformed

-- why a form may not stand here: a wrapper holds neither a pad nor a wrapper
abbrev pub stray : List Frame → Form → Option Reason
stray (frames.Annotated end ss ∷ fs) form = if is_pad form || is_wrapper form then Some Malformed else None
stray _ form = None

-- why a value may not stand behind a field name: its id has no symbol. What stands before a pad isn't resolved
abbrev pub nameless : List Frame → Form → Option Reason
nameless (frames.Named end ms (Err e) ∷ fs) form = if is_pad form then None else Some e
nameless _ form = None

-- why a header that has `used` octets may not go on
abbrev pub unending : ℕ → ℕ → List Frame → Form → ℕ → Option Reason
unending item start [] form used = too_long item start form used
unending item start (f ∷ fs) form used = if nat_lt used (end_of f) then None else Some Malformed

-- why a number may not go on in the container
abbrev pub outside : List Frame → ℕ → Option Reason
outside [] used = Some Malformed
outside (f ∷ fs) used = if nat_lt used (end_of f) then None else Some Malformed

-- why a VarUInt may not go on behind `used` octets
abbrev pub past : ℕ → ℕ → List Frame → Purpose → ℕ → Option Reason
past item start fs (Purpose.Length form) used = unending item start fs form used
past item start fs (Purpose.Annotation stop) used = if nat_lt used stop then None else Some Malformed
past item start fs _ used = outside fs used

-- why a form whose body ends at `to` may not stand here
abbrev pub unfit : ℕ → ℕ → List Frame → Form → ℕ → Option Reason
unfit item start fs form to = or_else (stray fs form) (or_else (misfits item start fs form to) (nameless fs form))

-- a scalar ends here, or its body is refused
abbrev pub judged : Setting → Spot → List Frame → Result Payload Reason → Outcome
judged setting spot fs (Ok p) = deliver setting spot fs (bare p)
judged setting spot fs (Err e) = refuses e

-- one level more, if the limit admits it
abbrev pub deeper : ℕ → List Frame → Outcome → Outcome
deeper depth fs r = if nat_lt (levels fs) depth then r else refuses Depth

-- a struct with a body of n octets begins
abbrev pub open_struct : Setting → Spot → List Frame → ℕ → Outcome
open_struct setting spot fs n =
    deeper setting.limits.depth fs (proceed setting spot (frames.Fields (spot.used + n) [] ∷ fs))

-- a header has ended, and n octets of body follow, which the form may have
abbrev pub begin : Setting → Spot → List Frame → Form → ℕ → Outcome
begin setting spot fs Form.Pad n = if n == 0 then proceed setting spot fs else goes (at spot fs (InPad (n - 1)))
begin setting spot fs (Form.Scalar t) n =
    if n == 0 then judged setting spot fs (judge spot.context t []) else goes (in_body spot fs t (n - 1) [])
begin setting spot fs (Form.ListOrSexp x) n =
    deeper setting.limits.depth fs (proceed setting spot (frames.Items (spot.used + n) x [] ∷ fs))
begin setting spot fs Form.Wrapper n =
    goes (at spot (frames.Annotated (spot.used + n) [] ∷ fs) (InNumber Purpose.AnnotationsLength 0))
begin setting spot fs _ n = open_struct setting spot fs n

-- why a form has no body of so many octets: a negative int, a timestamp, a struct that announces the order of its fields, and a wrapper have some
abbrev pub hollow : Form → ℕ → Option Reason
hollow (Form.Scalar Scalar.NegativeInt) n = if n == 0 then Some Malformed else None
hollow (Form.Scalar Scalar.Timestamp) n = if n == 0 then Some Malformed else None
hollow Form.OrderedStruct n = if n == 0 then Some Malformed else None
hollow Form.Wrapper n = if n == 0 then Some Malformed else None
hollow _ n = None

-- the same, if the body fits
abbrev pub sized : Setting → Spot → List Frame → Form → ℕ → Outcome
sized setting spot fs form n =
    unless (hollow form n) (unless (unfit setting.limits.item spot.start fs form (spot.used + n)) (begin setting spot fs form n))

-- a VarUInt goes on
abbrev pub longer : Setting → Spot → List Frame → Purpose → ℕ → Outcome
longer setting spot fs p a =
    unless (past setting.limits.item spot.start fs p spot.used) (goes (at spot fs (InNumber p a)))

-- the length of a form begins
abbrev pub unsized : Setting → Spot → List Frame → Form → Outcome
unsized setting spot fs form =
    unless (stray fs form)
    (unless (unending setting.limits.item spot.start fs form spot.used)
    (unless (nameless fs form) (goes (at spot fs (InNumber (Purpose.Length form) 0)))))

-- a version marker begins, at the top level alone
abbrev pub marks : Spot → List Frame → Outcome
marks spot [] = goes (at spot [] (InMarker Second true))
marks spot (f ∷ fs) = refuses Malformed

-- a value of one octet, to which the rules of any form that is no pad and no wrapper apply
abbrev pub one_octet : Setting → Spot → List Frame → Payload → Outcome
one_octet setting spot fs p =
    unless (unfit setting.limits.item spot.start fs Form.Struct spot.used) (deliver setting spot fs (bare p))

-- an octet where a descriptor comes
abbrev pub on_descriptor : Setting → Spot → List Frame → Opening → Outcome
on_descriptor setting spot fs (Refused reason) = refuses reason
on_descriptor setting spot fs Marker = marks spot fs
on_descriptor setting spot fs (Null k) = one_octet setting spot fs (payloads.Null k)
on_descriptor setting spot fs (Truth b) = one_octet setting spot fs (payloads.Truth b)
on_descriptor setting spot fs (Sized form (Known n)) = sized setting spot fs form n
on_descriptor setting spot fs (Sized form Follows) = unsized setting spot fs form

-- the id of a field name has come
abbrev pub name_came : Spot → List Frame → ℕ → Outcome
name_came spot (frames.Fields end ms ∷ fs) id =
    if nat_lt spot.used end then goes (at spot (frames.Named end ms (resolve spot.context id) ∷ fs) Ready)
    else refuses Malformed
name_came spot _ id = refuses Malformed

-- the number of the octets of annotations has come: there is one at least, and one behind them
abbrev pub count_came : Spot → List Frame → ℕ → Outcome
count_came spot (frames.Annotated end ss ∷ fs) n =
    if n == 0 then refuses Malformed
    else if nat_lt (spot.used + n) end
    then goes (at spot (frames.Annotated end ss ∷ fs) (InNumber (Purpose.Annotation (spot.used + n)) 0))
    else refuses Malformed
count_came spot _ n = refuses Malformed

-- the id of an annotation has come
abbrev pub annotation_came : Spot → List Frame → ℕ → Result (Option (List ℕ)) Reason → Outcome
annotation_came spot (frames.Annotated end ss ∷ fs) stop (Ok s) =
    goes (at spot (frames.Annotated end (ss ++ s ∷ []) ∷ fs)
    (if spot.used == stop then Ready else InNumber (Purpose.Annotation stop) 0))
annotation_came spot (frames.Annotated end ss ∷ fs) stop (Err e) = refuses e
annotation_came spot _ stop r = refuses Malformed

-- a VarUInt has ended
abbrev pub number_came : Setting → Spot → List Frame → Purpose → ℕ → Outcome
number_came setting spot fs (Purpose.Length form) n = sized setting spot fs form n
number_came setting spot fs Purpose.FieldName n = name_came spot fs n
number_came setting spot fs Purpose.AnnotationsLength n = count_came spot fs n
number_came setting spot fs (Purpose.Annotation stop) n = annotation_came spot fs stop (resolve spot.context n)

-- an octet of a VarUInt whose octets before it make a
abbrev pub on_number : Setting → Spot → List Frame → Purpose → ℕ → ℕ → Outcome
on_number setting spot fs p a b =
    if nat_lt b 128
    then (if nat_lt (128 * a + b) (2 ^ 63) then longer setting spot fs p (128 * a + b) else refuses TooLarge)
    else
    (if nat_lt (128 * a + (b - 128)) (2 ^ 63) then number_came setting spot fs p (128 * a + (b - 128)) else refuses TooLarge)

-- an octet of a marker; good where those before it are as they should be
abbrev pub on_marker : Spot → List Frame → Mark → Bool → ℕ → Outcome
on_marker spot fs First good b = if b == 224 then goes (at spot fs (InMarker Second good)) else refuses Malformed
on_marker spot fs Second good b = goes (at spot fs (InMarker Third (good && (b == 1))))
on_marker spot fs Third good b = goes (at spot fs (InMarker Fourth (good && (b == 0))))
on_marker spot fs Fourth good b =
    if b == 234 then (if good then goes (at (anew spot.used system_slots) fs Ready) else refuses Version)
    else refuses Malformed

-- an octet of a scalar, with which these octets of its body have come
abbrev pub on_body : Setting → Spot → List Frame → Scalar → ℕ → List ℕ → Outcome
on_body setting spot fs t missing body =
    if missing == 0 then judged setting spot fs (judge spot.context t body)
    else goes (in_body spot fs t (missing - 1) body)

-- an octet of a pad, so many missing behind it
abbrev pub on_pad : Setting → Spot → List Frame → ℕ → Outcome
on_pad setting spot fs missing =
    if missing == 0 then proceed setting spot fs else goes (at spot fs (InPad (missing - 1)))

-- an octet in a phase, which is counted already
abbrev pub on_phase : Setting → Machine → Phase → ℕ → Outcome
on_phase setting m (InMarker mark good) b = on_marker m.spot m.frames mark good b
on_phase setting m Ready b = on_descriptor setting m.spot m.frames (opening_of b)
on_phase setting m (InNumber p a) b = on_number setting m.spot m.frames p a b
on_phase setting m (InBody t missing) b = on_body setting m.spot m.frames t missing (m.body ++ b ∷ [])
on_phase setting m (InPad missing) b = on_pad setting m.spot m.frames missing

-- with one octet more taken up
abbrev pub counted : Machine → Machine
counted m = record m { spot = moved m.spot (m.spot.used + 1) }

-- one octet
abbrev pub feed : Setting → Machine → ℕ → Outcome
feed setting m b = on_phase setting (counted m) m.phase b
