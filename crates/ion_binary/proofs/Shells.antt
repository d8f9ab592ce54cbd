-- What may stand in open containers is told by their shells, in which nothing is.
use Rattle.std.proofs.Common.{◌≡◌, ℕ, suc, List, [], ◌∷◌, map, Bool, false, Option, Some, None, Ok, Err, refl, ap, sym, ◌∙◌}
use Rattle.std.specs.Prelude.{nat_lt}
use Rattle.ion_binary.specs.Names.{AreAround, AreOpen, BinaryWalk, Field, Form, Frame, Holds, HoldsNoWrapper, IsNamedBy, MayBegin, Outcome, Reason, containers_of, is_pad, levels, misfits, name_of, nameless, or_else, refuses, shell, shells, stray, unfit, unless}
use Rattle.ion_binary.specs.machine.Frames as frames
use Rattle.ion_binary.specs.walking.Holds.{Name}
use Rattle.ion_binary.specs.laws.reading.Complete.{Admits}
use Rattle.ion_binary.specs.laws.reading.Stands.{BodyMayEnd}
use Rattle.ion_binary.specs.laws.reading.sound.Bounds.{misfits_ends}

-- containers with nothing in them
abbrev pub emptied : Name → List Frame → List Frame
emptied n fs = map (shell n) (containers_of fs)

pub shells_of : (r : BinaryWalk) (fs : List Frame) → Holds r fs → shells r ≡ emptied (name_of r) fs
shells_of r fs h = ap (map (shell (name_of r))) h.containers

pub levels_same : (n : Name) (fs : List Frame) → levels (emptied n fs) ≡ levels fs
levels_same n [] = refl
levels_same n (frames.Annotated end ss ∷ fs) = levels_same n fs
levels_same n (_ ∷ fs) = ap suc (levels_same n fs)

-- the same of readers

pub levels_of : (r : BinaryWalk) (fs : List Frame) → Holds r fs → levels (shells r) ≡ levels fs
levels_of r fs h = rw h.containers (levels_same (name_of r) fs)

pub deepens : (r : BinaryWalk) (fs : List Frame) (may : Bool) → Holds r fs → may ≡ nat_lt (levels (shells r)) r.limits.depth
    → nat_lt (levels fs) r.limits.depth ≡ may
deepens r fs may h is = rw (is, levels_of r fs h) refl

-- where a form may not stand: their shells tell

stray_same : (n : Name) (fs : List Frame) (form : Form) → stray (emptied n fs) form ≡ stray fs form
stray_same n (frames.Items end x vs ∷ fs) form = refl
stray_same n _ form = refl

misfits_same : (item start : ℕ) (n : Name) (fs : List Frame) (form : Form) (to : ℕ)
    → misfits item start (emptied n fs) form to ≡ misfits item start fs form to
misfits_same item start n (frames.Items end x vs ∷ fs) form to = refl
misfits_same item start n _ form to = refl

nameless_by : (m : Name) (form : Form) (end : ℕ) (ms : List Field) (fs gs : List Frame)
    → nameless (frames.Named end [] m ∷ fs) form ≡ nameless (frames.Named end ms m ∷ gs) form
nameless_by (Ok s) form end ms fs gs = refl
nameless_by (Err e) form end ms fs gs = refl

nameless_same : (n : Name) (fs : List Frame) (form : Form) → IsNamedBy n fs → nameless (emptied n fs) form ≡ nameless fs form
nameless_same n (frames.Named end ms m ∷ fs) form h =
    rw (← h) (nameless_by m form end ms (emptied n fs) fs)
nameless_same n _ form h = refl

unfit_same : (item start : ℕ) (n : Name) (fs : List Frame) (form : Form) (to : ℕ) → IsNamedBy n fs
    → unfit item start (emptied n fs) form to ≡ unfit item start fs form to
unfit_same item start n fs form to h = rw (stray_same n fs form, misfits_same item start n fs form to, nameless_same n fs form h) refl

first_none : (a b : Option Reason) → or_else a b ≡ None → a ≡ None
first_none None b h = refl
first_none (Some e) b h = absurd cc

second_none : (a b : Option Reason) → or_else a b ≡ None → b ≡ None
second_none None b h = h
second_none (Some e) b h = absurd cc

-- a value may begin where its form isn't refused
around_open : (fs : List Frame) (form : Form) → AreOpen fs → is_pad form ≡ false → nameless fs form ≡ None → AreAround fs
around_open [] form h plain named = tt
around_open (frames.Named end ms (Err e) ∷ fs) form h plain named =
    let refused = rw plain at named in absurd cc
around_open (_ ∷ fs) form h plain named = h

unwrapped_open : (fs : List Frame) → stray fs Form.Wrapper ≡ None → HoldsNoWrapper fs
unwrapped_open (frames.Annotated end ss ∷ fs) h = absurd cc
unwrapped_open _ h = tt

begins_open : (fs : List Frame) (form : Form) → AreOpen fs → stray fs form ≡ None → nameless fs form ≡ None → MayBegin form fs
begins_open fs Form.Pad h fits named = tt
begins_open fs (Form.Scalar t) h fits named = around_open fs (Form.Scalar t) h refl named
begins_open fs (Form.ListOrSexp x) h fits named = around_open fs (Form.ListOrSexp x) h refl named
begins_open fs Form.Struct h fits named = around_open fs Form.Struct h refl named
begins_open fs Form.OrderedStruct h fits named = around_open fs Form.OrderedStruct h refl named
begins_open fs Form.Wrapper h fits named = (unwrapped_open fs fits, around_open fs Form.Wrapper h refl named)

module _ (r : BinaryWalk) (fs : List Frame) (h : Holds r fs) (form : Form) (to : ℕ) where
  unfit_of : unfit r.limits.item r.start (shells r) form to ≡ unfit r.limits.item r.start fs form to
  unfit_of = rw h.containers (unfit_same r.limits.item r.start (name_of r) fs form to h.named)

  -- what may not stand there is refused
  pub unfit_refused : (o : Outcome) (e : Reason) → Some e ≡ unfit r.limits.item r.start (shells r) form to
      → unless (unfit r.limits.item r.start fs form to) o ≡ refuses e
  unfit_refused o e is = rw (← unfit_of, ← is) refl

  -- what may stand there goes on
  pub fits : (o : Outcome) → None ≡ unfit r.limits.item r.start (shells r) form to → unless (unfit r.limits.item r.start fs form to) o ≡ o
  fits o is = rw (← unfit_of, ← is) refl

  may_stand : None ≡ unfit r.limits.item r.start (shells r) form to
      → (stray fs form ≡ None) × (misfits r.limits.item r.start fs form to ≡ None) × (nameless fs form ≡ None)
  may_stand is =
      let none : unfit r.limits.item r.start fs form to ≡ None = sym unfit_of ∙ sym is in
      let rest = second_none (stray fs form) (or_else (misfits r.limits.item r.start fs form to) (nameless fs form)) none in (
        first_none (stray fs form) _ none,
        first_none (misfits r.limits.item r.start fs form to) _ rest,
        second_none (misfits r.limits.item r.start fs form to) (nameless fs form) rest,
      )

  -- and there is room for it
  pub has_room : None ≡ unfit r.limits.item r.start (shells r) form to → Admits fs form × BodyMayEnd r.limits r.start fs form to
  has_room is = let s = may_stand is in (record { fitting = s.0; named = s.2 }, misfits_ends r.limits r.start fs form to s.1)

  pub may_begin : None ≡ unfit r.limits.item r.start (shells r) form to → MayBegin form fs
  may_begin is = let s = may_stand is in begins_open fs form h.open_there s.0 s.2
