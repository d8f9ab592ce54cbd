-- Octets that pass a test of the machine fit, in the grammar's words; for those that don't, a row of the table decides.
use Rattle.std.proofs.Common.{◌≡◌, ℕ, ◌+◌, ◌≤◌, List, [], ◌∷◌, length, append-nil, arith, Result, Ok, Err, Option, Some, None, refl, sym, ◌∙◌, Bool, true, false, ◌||◌, cond, leb-true, ltb-true, eqb-true, nat_le}
use Rattle.std.proofs.lemmas.Bool.{cond-false}
use Rattle.ion_binary.specs.Names.{Catalog, Decides, Form, Frame, ItemTooLong, Limits, Malformed, Outcome, Payload, Purpose, Reason, Slot, Spot, Value, bare, deliver, end_of, is_pad, is_wrapper, judged, misfits, nameless, none, or_else, past, stray, under, unending, unless}
use Rattle.ion_binary.specs.machine.Frames as frames
use Rattle.ion_binary.specs.laws.reading.Openings.{some_none}
use Rattle.ion_binary.specs.laws.reading.Stands.{Accepts, BodyMayEnd, Going, IsBare, IsStructOf, Leaves, NumberBegins, NumberGoing, NumberStands, Receives}

-- before the first octet of a VarUInt
pub number_awaited : (g : Catalog) (l : Limits) (start : ℕ) (c : List Slot) (s : List Value) (fs : List Frame) (p : Purpose) (u : List ℕ)
    → NumberBegins g l start c s fs p u → NumberGoing l start fs p (length u) → NumberStands g l start c s fs p 0 u
number_awaited g l start c s fs p u begins going =
    record { front = u; digits = []; whole = sym (append-nil u); begins = begins; small = none; value = refl; bound = omega arith; going = going }

-- all forms but a pad may end at the same places
pub ends_back : (l : Limits) (start : ℕ) (fs : List Frame) (form : Form) (to : ℕ) → is_pad form ≡ false → BodyMayEnd l start fs form to
    → BodyMayEnd l start fs Form.Struct to
ends_back l start [] form to i r = λ p. r i
ends_back l start (frames.Annotated end ss ∷ fs) form to i r = r
ends_back l start _ form to i r = r

-- a struct is no pad
pub struct_sized : (form : Form) (n : ℕ) → IsStructOf form n → is_pad form ≡ false
struct_sized Form.Pad n h = absurd h
struct_sized _ n h = refl

-- where a reason would be given unless a test held, and none is, the test holds
pub cond_none : (b : Bool) (x : Reason) → cond b None (Some x) ≡ None → b ≡ true
cond_none true x h = refl
cond_none false x h = cc

top_room : (b : Bool) (item start to : ℕ) → cond (b || nat_le to (start + item)) None (Some ItemTooLong) ≡ None → b ≡ false → to ≤ start + item
top_room true item start to h e = absurd cc
top_room false item start to h e = leb-true to (start + item) (cond_none _ _ h)

-- a body may end where that isn't refused
pub misfits_ends : (l : Limits) (start : ℕ) (fs : List Frame) (form : Form) (to : ℕ) → misfits l.item start fs form to ≡ None → BodyMayEnd l start fs form to
misfits_ends l start [] form to h = top_room (is_pad form) l.item start to h
misfits_ends l start (frames.Annotated end ss ∷ fs) form to h = eqb-true to end (cond_none _ _ h)
misfits_ends l start _ form to h = leb-true to _ (cond_none _ _ h)

-- where a number may go on, the octets so far are within what is open
pub unending_going : (l : Limits) (start : ℕ) (fs : List Frame) (form : Form) (used : ℕ) → unending l.item start fs form used ≡ None
    → Going l start fs form used
unending_going l start [] form used h = top_room (is_pad form) l.item start used h
unending_going l start (f ∷ fs) form used h = ltb-true used (end_of f) (cond_none _ _ h)

-- and so where a VarUInt may
pub past_going : (l : Limits) (start : ℕ) (fs : List Frame) (p : Purpose) (used : ℕ) → past l.item start fs p used ≡ None → NumberGoing l start fs p used
past_going l start fs (Purpose.Length form) used h = unending_going l start fs form used h
past_going l start fs (Purpose.Annotation stop) used h = ltb-true used stop (cond_none _ _ h)
past_going l start [] _ used h = tt
past_going l start (f ∷ fs) _ used h = ltb-true used (end_of f) (cond_none _ _ h)

-- where of two reasons none is given, neither is
pub or_none : (a b : Option Reason) → or_else a b ≡ None → (a ≡ None) × (b ≡ None)
or_none None b h = (refl, h)
or_none (Some e) b h = absurd cc

stray_bare : (fs : List Frame) (form : Form) → (is_pad form || is_wrapper form) ≡ true → stray fs form ≡ None → IsBare fs
stray_bare (frames.Annotated end ss ∷ fs) form i h = let k = some_none (is_pad form || is_wrapper form) Malformed h in absurd cc
stray_bare _ form i h = tt

-- where values may come and a form is not astray, the innermost container accepts it
pub stray_accepts : (fs : List Frame) (form : Form) → Receives fs → stray fs form ≡ None → Accepts form fs
stray_accepts fs Form.Pad r h = (r, stray_bare fs Form.Pad refl h)
stray_accepts fs Form.Wrapper r h = stray_bare fs Form.Wrapper refl h
stray_accepts fs _ r h = tt

-- what is no pad needs the same of a name
pub named_struct : (fs : List Frame) (form : Form) → is_pad form ≡ false → nameless fs form ≡ None → nameless fs Form.Struct ≡ None
named_struct (frames.Named end ms (Err e) ∷ fs) form p h = absurd (let q : Some e ≡ None = sym (cond-false _ _ _ p) ∙ h in cc)
named_struct _ form p h = refl

module _ (g : Catalog) (l : Limits) where
  -- an outcome stands for the octets, if each reason against it decides there
  pub unless_leaves : (u : List ℕ) (s : List Value) (r : Outcome) (o : Option Reason) → ((e : Reason) → o ≡ Some e → Decides g l u e)
      → (o ≡ None → Leaves g l u s r) → Leaves g l u s (unless o r)
  unless_leaves u s r None w h = h refl
  unless_leaves u s r (Some x) w h = w x refl

  -- a judged body stands for the octets, if the reason against it decides there
  pub judged_leaves : (u : List ℕ) (s : List Value) (spot : Spot) (fs : List Frame) (r : Result Payload Reason) → ((e : Reason) → r ≡ Err e → Decides g l u e)
      → ((p : Payload) → r ≡ Ok p → Leaves g l u s (deliver (under g l) spot fs (bare p))) → Leaves g l u s (judged (under g l) spot fs r)
  judged_leaves u s spot fs (Ok p) w h = h p refl
  judged_leaves u s spot fs (Err e) w h = w e refl
