-- An octet never moves the start of the open piece back.
use Rattle.std.proofs.Common.{ℕ, ◌+◌, ◌-◌, ◌*◌, ◌^◌, ◌≤◌, List, [], ◌∷◌, ◌++◌, Result, Ok, Err, Option, Some, None, arith, Bool, nat_lt, ◌==◌}
use Rattle.ion_binary.specs.Names.{First, Follows, Form, Fourth, Frame, InBody, InMarker, InNumber, InPad, Known, Machine, Mark, Marker, Null, Opening, Outcome, Payload, Phase, Purpose, Ready, Reason, Refused, Setting, Sized, Slot, Spot, Truth, Value, annotation_came, bare, begin, count_came, counted, deeper, deliver, end_of, feed, gives, goes, hollow, is_table, judge, judged, levels, longer, name_came, nameless, next, number_came, on_descriptor, on_marker, on_phase, one_octet, opening_of, past, proceed, refuses, resolve, sized, stray, turned, unending, unfit, unless}
use Rattle.ion_model.specs.declared.value.Payload.TheVariants as payloads
use Rattle.ion_symtab.specs.laws.Reasons.{either}
use Rattle.ion_binary.specs.machine.Frames as frames

-- the open piece begins at `start` or behind it
pub record Onward (start : ℕ) (m : Machine) : Type 0 where
  pub from : start ≤ m.spot.start
  pub to : m.spot.start ≤ m.spot.used

-- it does where the machine goes on
abbrev pub Steady : ℕ → Outcome → Type 0
Steady start (goes m) = Onward start m
Steady start (gives v m) = Onward start m
Steady start (refuses e) = Unit {0}

unless_steady : (start : ℕ) (o : Option Reason) (r : Outcome) → Steady start r → Steady start (unless o r)
unless_steady start None r h = h
unless_steady start (Some e) r h = tt

module _ (setting : Setting) (spot : Spot) (h : spot.start ≤ spot.used) where
  turned_steady : (r : Result (List Slot) Reason) → Steady spot.start (turned spot.used r)
  turned_steady (Ok d) = record { from = h; to = omega arith }
  turned_steady (Err e) = tt

  deliver_steady : (fs : List Frame) (v : Value) → Steady spot.start (deliver setting spot fs v)
  deliver_steady [] v =
      either (Steady spot.start) (is_table v) _ _ (turned_steady (next spot.context v setting.catalog)) (record { from = h; to = omega arith })
  deliver_steady (frames.Fields end ms ∷ fs) v = tt
  deliver_steady (frames.Named end ms (Err e) ∷ fs) v = tt
  deliver_steady (frames.Annotated end ss ∷ fs) v = deliver_steady fs _
  deliver_steady (f ∷ fs) v = either (Steady spot.start) (spot.used == end_of f) _ _ (deliver_steady fs _) (record { from = omega arith; to = h })

  proceed_steady : (fs : List Frame) → Steady spot.start (proceed setting spot fs)
  proceed_steady [] = record { from = h; to = omega arith }
  proceed_steady (frames.Annotated end ss ∷ fs) = tt
  proceed_steady (f ∷ fs) = either (Steady spot.start) (spot.used == end_of f) _ _ (deliver_steady fs _) (record { from = omega arith; to = h })

  judged_steady : (fs : List Frame) (r : Result Payload Reason) → Steady spot.start (judged setting spot fs r)
  judged_steady fs (Ok p) = deliver_steady fs (bare p)
  judged_steady fs (Err e) = tt

  deeper_steady : (depth : ℕ) (fs : List Frame) (r : Outcome) → Steady spot.start r → Steady spot.start (deeper depth fs r)
  deeper_steady depth fs r k = either (Steady spot.start) (nat_lt (levels fs) depth) _ _ k tt

  begin_steady : (fs : List Frame) (form : Form) (n : ℕ) → Steady spot.start (begin setting spot fs form n)
  begin_steady fs Form.Pad n = either (Steady spot.start) (n == 0) _ _ (proceed_steady fs) (record { from = omega arith; to = h })
  begin_steady fs (Form.Scalar t) n =
      either (Steady spot.start) (n == 0) _ _ (judged_steady fs (judge spot.context t [])) (record { from = omega arith; to = h })
  begin_steady fs (Form.ListOrSexp x) n = deeper_steady setting.limits.depth fs _ (proceed_steady (frames.Items (spot.used + n) x [] ∷ fs))
  begin_steady fs Form.Wrapper n = record { from = omega arith; to = h }
  begin_steady fs _ n = deeper_steady setting.limits.depth fs _ (proceed_steady (frames.Fields (spot.used + n) [] ∷ fs))

  sized_steady : (fs : List Frame) (form : Form) (n : ℕ) → Steady spot.start (sized setting spot fs form n)
  sized_steady fs form n = unless_steady spot.start (hollow form n) _
      (unless_steady spot.start (unfit setting.limits.item spot.start fs form (spot.used + n)) _ (begin_steady fs form n))

  one_steady : (fs : List Frame) (p : Payload) → Steady spot.start (one_octet setting spot fs p)
  one_steady fs p = unless_steady spot.start (unfit setting.limits.item spot.start fs Form.Struct spot.used) _ (deliver_steady fs (bare p))

  descriptor_steady : (fs : List Frame) (d : Opening) → Steady spot.start (on_descriptor setting spot fs d)
  descriptor_steady fs (Refused e) = tt
  descriptor_steady [] Marker = record { from = omega arith; to = h }
  descriptor_steady (k ∷ fs) Marker = tt
  descriptor_steady fs (Null k) = one_steady fs (payloads.Null k)
  descriptor_steady fs (Truth t) = one_steady fs (payloads.Truth t)
  descriptor_steady fs (Sized form (Known n)) = sized_steady fs form n
  descriptor_steady fs (Sized form Follows) =
      unless_steady spot.start (stray fs form) _ (unless_steady spot.start (unending setting.limits.item spot.start fs form spot.used) _
      (unless_steady spot.start (nameless fs form) _ (record { from = omega arith; to = h })))

  name_steady : (fs : List Frame) (id : ℕ) → Steady spot.start (name_came spot fs id)
  name_steady (frames.Fields end ms ∷ fs) id = either (Steady spot.start) (nat_lt spot.used end) _ _ (record { from = omega arith; to = h }) tt
  name_steady _ id = tt

  count_steady : (fs : List Frame) (n : ℕ) → Steady spot.start (count_came spot fs n)
  count_steady (frames.Annotated end ss ∷ fs) n =
      either (Steady spot.start) (n == 0) _ _ tt (either (Steady spot.start) (nat_lt (spot.used + n) end) _ _ (record { from = omega arith; to = h }) tt)
  count_steady _ n = tt

  annotation_steady : (fs : List Frame) (stop : ℕ) (r : Result (Option (List ℕ)) Reason) → Steady spot.start (annotation_came spot fs stop r)
  annotation_steady (frames.Annotated end ss ∷ fs) stop (Ok s) = record { from = omega arith; to = h }
  annotation_steady (frames.Annotated end ss ∷ fs) stop (Err e) = tt
  annotation_steady _ stop r = tt

  came_steady : (fs : List Frame) (p : Purpose) (n : ℕ) → Steady spot.start (number_came setting spot fs p n)
  came_steady fs (Purpose.Length form) n = sized_steady fs form n
  came_steady fs Purpose.FieldName n = name_steady fs n
  came_steady fs Purpose.AnnotationsLength n = count_steady fs n
  came_steady fs (Purpose.Annotation stop) n = annotation_steady fs stop (resolve spot.context n)

  longer_steady : (fs : List Frame) (p : Purpose) (a : ℕ) → Steady spot.start (longer setting spot fs p a)
  longer_steady fs p a = unless_steady spot.start (past setting.limits.item spot.start fs p spot.used) _ (record { from = omega arith; to = h })

  marker_steady : (fs : List Frame) (m : Mark) (good : Bool) (b : ℕ) → Steady spot.start (on_marker spot fs m good b)
  marker_steady fs First good b = either (Steady spot.start) (b == 224) _ _ (record { from = omega arith; to = h }) tt
  marker_steady fs Fourth good b =
      either (Steady spot.start) (b == 234) _ _ (either (Steady spot.start) good _ _ (record { from = h; to = omega arith }) tt) tt
  marker_steady fs _ good b = record { from = omega arith; to = h }

phase_steady : (setting : Setting) (m : Machine) (p : Phase) (b : ℕ) → m.spot.start ≤ m.spot.used → Steady m.spot.start (on_phase setting m p b)
phase_steady setting m (InMarker mark good) b h = marker_steady setting m.spot h m.frames mark good b
phase_steady setting m Ready b h = descriptor_steady setting m.spot h m.frames (opening_of b)
phase_steady setting m (InNumber p a) b h =
    either (Steady m.spot.start) (nat_lt b 128) _ _
    (either (Steady m.spot.start) (nat_lt (128 * a + b) (2 ^ 63)) _ _ (longer_steady setting m.spot h m.frames p (128 * a + b)) tt)
    (either (Steady m.spot.start) (nat_lt (128 * a + (b - 128)) (2 ^ 63)) _ _ (came_steady setting m.spot h m.frames p (128 * a + (b - 128))) tt)
phase_steady setting m (InBody t missing) b h = either (Steady m.spot.start) (missing == 0) _ _
    (judged_steady setting m.spot h m.frames (judge m.spot.context t (m.body ++ b ∷ []))) (record { from = omega arith; to = h })
phase_steady setting m (InPad missing) b h =
    either (Steady m.spot.start) (missing == 0) _ _ (proceed_steady setting m.spot h m.frames) (record { from = omega arith; to = h })

-- an octet leaves the start of the open piece where it is, or moves it on
pub feed_steady : (setting : Setting) (m : Machine) (b : ℕ) → m.spot.start ≤ m.spot.used → Steady m.spot.start (feed setting m b)
feed_steady setting m b h = phase_steady setting (counted m) m.phase b (omega arith)
