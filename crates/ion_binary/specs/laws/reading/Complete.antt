-- What the grammar says, the machine reads.
use Rattle.std.proofs.Common.{◌≡◌, ℕ, zero, suc, ◌+◌, ◌-◌, ◌*◌, ◌^◌, ◌<◌, ◌≤◌, max, List, [], ◌∷◌, ◌++◌, length, Option, Result, Ok, Err, Some, None, refl, ap, sym, ◌∙◌, arith, length-append, Bool, true, false, ◌||◌, cond, nat_le, append_assoc, le-leb, lt-ltb, le-ltb, eq-eqb, ne_eqb, ◌==◌}
use Rattle.std.proofs.lemmas.Bool.{cond-true, cond-false}
use Rattle.ion_binary.specs.Names.{Binary, Catalog, Digits128, Field, Fields, Form, Frame, Header, Ids, InNumber, InPad, IsPad, ItemTooLong, Limits, ListOrSexp, Machine, Outcome, Payload, Plain, Purpose, Ready, Reason, Run, Scalar, Sequence, Slot, Spot, Value, VarUInt, anew, annotated, at, bare, begin, count_came, deliver, depth, depths, descriptor_of, end_of, feed, field_depths, field_of, hollow, in_body, is_listing, is_null, is_ordered, is_pad, is_scalar, is_struct, is_truth, is_wrapper, judge, judged, led, length-one, levels, listed, long, longer, misfits, more, nameless, no_fields, no_ids, none, nothing, number_came, on_outcome, one_field, one_id, one_more, one_octet, open_struct, opening_of, outside, padded, padded_field, past, positional, positional_push, proceed, read_offset, resolve, run, run-append, run_after, run_on, run_step, run_via, short, sized, skipped, spot_at, stray, system_slots, the_marker, then_after, timestamp_of_body, too_long, unannotated, under, unending, unfit, unsized, wrapped}
use Rattle.ion_model.specs.declared.value.Payload.TheVariants as payloads
use Rattle.ion_model.specs.laws.Measures.{deepest-more, depth-at-Fields, depth-at-List, depth-at-Sexp, depth-out}
use Rattle.ion_binary.specs.machine.AtOnce.{body_more, pad_more}
use Rattle.ion_binary.specs.machine.EachOctet.{moved}
use Rattle.ion_binary.specs.machine.Frames as frames
use Rattle.ion_binary.specs.laws.reading.Judged.{judge_scalar}
use Rattle.ion_binary.specs.laws.reading.Stands.{BodyMayEnd, HasRoom, InRoom, NumberRoom, TopRoom}

-- depths

-- a list or an s-expression is one level deeper than the deepest of its items
pub depth-listed : (x : ListOrSexp) (vs : List Value) → depth (bare (listed x vs)) ≡ suc (depths vs)
depth-listed ListOrSexp.List vs = depth-at-List (bare (payloads.List vs)) vs refl
depth-listed ListOrSexp.Sexp vs = depth-at-Sexp (bare (payloads.Sexp vs)) vs refl

-- a struct is one level deeper than the deepest of its fields
pub depth-fields : (ms : List Field) → depth (bare (payloads.Fields ms)) ≡ suc (field_depths ms)
depth-fields ms = depth-at-Fields (bare (payloads.Fields ms)) ms refl

-- annotations add nothing to the depth
pub depth-annotated : (ss : List (Option (List ℕ))) (p : Payload) → depth (annotated ss p) ≡ depth (bare p)
depth-annotated ss p = depth-out (annotated ss p) ∙ sym (depth-out (bare p))

-- with one field more, the deepest is that one, or one of those before
pub field_deepest-more : (ms : List Field) (m : Field) → field_depths (ms ++ m ∷ []) ≡ max (field_depths ms) (depth m.value)
field_deepest-more [] m = omega arith
field_deepest-more (n ∷ ms) m = omega (arith, field_deepest-more ms m)

-- where there is room, nothing is refused for want of it

top_none : (b : Bool) (item start to : ℕ) → (b ≡ false → to ≤ start + item) → cond (b || nat_le to (start + item)) None (Some ItemTooLong) ≡ None
top_none true item start to h = refl
top_none false item start to h = cond-true _ _ _ (le-leb to (start + item) (h refl))

-- an item for which there is room isn't too long
pub too_long_none : (item start : ℕ) (form : Form) (to : ℕ) → TopRoom item start form to → too_long item start form to ≡ None
too_long_none item start form to h = top_none (is_pad form) item start to h

top_less : (item start : ℕ) (form : Form) (a b : ℕ) → a ≤ b → TopRoom item start form b → TopRoom item start form a
top_less item start form a b h r = λ p. let k = r p in omega arith

misfits_none : (l : Limits) (start : ℕ) (fs : List Frame) (form : Form) (to : ℕ) → BodyMayEnd l start fs form to → misfits l.item start fs form to ≡ None
misfits_none l start [] form to h = too_long_none l.item start form to h
misfits_none l start (frames.Annotated end ss ∷ fs) form to h = cond-true _ _ _ (eq-eqb to end h)
misfits_none l start _ form to h = cond-true _ _ _ (le-leb to _ h)

-- where the body's end fits, its header does
ends_room : (l : Limits) (start : ℕ) (fs : List Frame) (form : Form) (a b : ℕ) → a ≤ b → BodyMayEnd l start fs form b → HasRoom l start fs form a
ends_room l start [] form a b h r = top_less l.item start form a b h r
ends_room l start (frames.Annotated end ss ∷ fs) form a b h r = omega arith
ends_room l start _ form a b h r = omega arith

room_less : (l : Limits) (start : ℕ) (fs : List Frame) (form : Form) (a b : ℕ) → a ≤ b → HasRoom l start fs form b → HasRoom l start fs form a
room_less l start [] form a b h r = top_less l.item start form a b h r
room_less l start (f ∷ fs) form a b h r = omega arith

unending_none : (l : Limits) (start : ℕ) (fs : List Frame) (form : Form) (used : ℕ) → HasRoom l start fs form (used + 1) → unending l.item start fs form used
    ≡ None
unending_none l start [] form used h = too_long_none l.item start form used (top_less l.item start form used (used + 1) (omega arith) h)
unending_none l start (f ∷ fs) form used h = cond-true _ _ _ (lt-ltb used (end_of f) (omega arith))

outside_none : (fs : List Frame) (used : ℕ) → InRoom fs (used + 1) → outside fs used ≡ None
outside_none [] used h = absurd h
outside_none (f ∷ fs) used h = cond-true _ _ _ (lt-ltb used (end_of f) (omega arith))

past_none : (l : Limits) (start : ℕ) (fs : List Frame) (p : Purpose) (used : ℕ) → NumberRoom l start fs p (used + 1) → past l.item start fs p used ≡ None
past_none l start fs (Purpose.Length form) used h = unending_none l start fs form used h
past_none l start fs (Purpose.Annotation stop) used h = cond-true _ _ _ (lt-ltb used stop (omega arith))
past_none l start fs _ used h = outside_none fs used h

in_less : (fs : List Frame) (a b : ℕ) → a ≤ b → InRoom fs b → InRoom fs a
in_less [] a b h r = r
in_less (f ∷ fs) a b h r = omega arith

number_less : (l : Limits) (start : ℕ) (fs : List Frame) (p : Purpose) (a b : ℕ) → a ≤ b → NumberRoom l start fs p b → NumberRoom l start fs p a
number_less l start fs (Purpose.Length form) a b h r = room_less l start fs form a b h r
number_less l start fs (Purpose.Annotation stop) a b h r = omega arith
number_less l start fs _ a b h r = in_less fs a b h r

-- a form may stand here
pub record Admits (fs : List Frame) (form : Form) : Type 0 where
  pub fitting : stray fs form ≡ None
  pub named : nameless fs form ≡ None

stray_none : (fs : List Frame) (form : Form) → is_pad form ≡ false → is_wrapper form ≡ false → stray fs form ≡ None
stray_none (frames.Annotated end ss ∷ fs) form p w = rw (p, w) refl
stray_none _ form p w = refl

-- what may stand behind this field name doesn't depend on the form
nameless_none : (fs : List Frame) (form : Form) → nameless fs Form.Struct ≡ None → nameless fs form ≡ None
nameless_none (frames.Named end ms (Err e) ∷ fs) form h = absurd cc
nameless_none _ form h = refl

pub admits_plain : (fs : List Frame) (form : Form) → is_pad form ≡ false → is_wrapper form ≡ false → nameless fs Form.Struct ≡ None → Admits fs form
admits_plain fs form p w h = record { fitting = stray_none fs form p w; named = nameless_none fs form h }

-- all forms but a pad may end at the same places
pub ends_as : (l : Limits) (start : ℕ) (fs : List Frame) (form : Form) (to : ℕ) → BodyMayEnd l start fs Form.Struct to → BodyMayEnd l start fs form to
ends_as l start [] form to r = λ p. r refl
ends_as l start (frames.Annotated end ss ∷ fs) form to r = r
ends_as l start _ form to r = r

unfit_none : (l : Limits) (start : ℕ) (fs : List Frame) (form : Form) (to : ℕ) → Admits fs form → BodyMayEnd l start fs form to → unfit l.item start fs form to
    ≡ None
unfit_none l start fs form to a h = rw (a.fitting, misfits_none l start fs form to h, a.named) refl

-- numbers

-- a scalar's body has the octets that its form asks for
pub hollow_scalar : (c : List Slot) (t : Scalar) (body : List ℕ) (p : Payload) → judge c t body ≡ Ok p → hollow (Form.Scalar t) (length body) ≡ None
unfolding judge timestamp_of_body read_offset
hollow_scalar c Scalar.NegativeInt [] p h = absurd cc
hollow_scalar c Scalar.NegativeInt (b ∷ bs) p h = cond-false _ _ _ (ne_eqb (suc (length bs)) 0 (λ e. omega arith))
hollow_scalar c Scalar.Timestamp [] p h = absurd cc
hollow_scalar c Scalar.Timestamp (b ∷ bs) p h = cond-false _ _ _ (ne_eqb (suc (length bs)) 0 (λ e. omega arith))
hollow_scalar c _ body p h = refl

-- a number with one more digit at its end
pub digits_more : (ds : List ℕ) (d : ℕ) → positional 128 (ds ++ d ∷ []) ≡ 128 * positional 128 ds + d
digits_more ds d = let i = positional_push 128 ds d in omega arith

-- a VarUInt has an octet
pub length_VarUInt : (w : List ℕ) (n : ℕ) → VarUInt w n → 0 < length w
length_VarUInt w n v = let k : length w ≡ length v.digits + 1 = ap length v.octets ∙ length-one v.digits (128 + v.last) in omega arith

-- a header has an octet
pub header_some : (form : Form) (n : ℕ) (h : List ℕ) → Header form n h → 0 < length h
header_some form n _ (short b d) = omega arith
header_some form n _ (long b h d v) = omega arith

joined_some : (h body : List ℕ) → 0 < length h → 0 < length (h ++ body)
joined_some h body k = let e = length-append h body in omega arith

-- a value without annotations has an octet
pub plain_some : (c : List Slot) (w : List ℕ) (p : Payload) → Plain c w p → 0 < length w
plain_some c _ _ (is_scalar h body t p d i) = joined_some h body (header_some _ _ h d)
plain_some c _ _ (is_listing h body x vs d q) = joined_some h body (header_some _ _ h d)
plain_some c _ _ (is_struct h body ms d q) = joined_some h body (header_some _ _ h d)
plain_some c _ _ (is_ordered h body ms d n q) = joined_some h body (header_some _ _ h d)
plain_some c _ _ _ = omega arith

-- a value has an octet
pub binary_some : (c : List Slot) (w : List ℕ) (v : Value) → Binary c w v → 0 < length w
binary_some c _ _ (unannotated w p b) = plain_some c w p b
binary_some c _ _ (wrapped h count ids w ss p d v n i b) = joined_some h _ (header_some _ _ h d)

-- a pad has an octet
pub pad_some : (w : List ℕ) → IsPad w → 0 < length w
pad_some _ (skipped h body d) = joined_some h body (header_some _ _ h d)

module _ (g : Catalog) (l : Limits) where
  -- where there is room, the header's end begins the body
  sized_begins : (spot : Spot) (fs : List Frame) (form : Form) (n : ℕ) → hollow form n ≡ None → Admits fs form → BodyMayEnd l spot.start fs form (spot.used + n)
      → sized (under g l) spot fs form n ≡ begin (under g l) spot fs form n
  sized_begins spot fs form n hol a r = rw (hol, unfit_none l spot.start fs form (spot.used + n) a r) refl

  unsized_goes : (spot : Spot) (fs : List Frame) (form : Form) → Admits fs form → HasRoom l spot.start fs form (spot.used + 1)
      → unsized (under g l) spot fs form ≡ Outcome.goes (at spot fs (InNumber (Purpose.Length form) 0))
  unsized_goes spot fs form a r = rw (a.fitting, unending_none l spot.start fs form spot.used r, a.named) refl

  longer_goes : (spot : Spot) (fs : List Frame) (p : Purpose) (a : ℕ) → NumberRoom l spot.start fs p (spot.used + 1) → longer (under g l) spot fs p a
      ≡ Outcome.goes (at spot fs (InNumber p a))
  longer_goes spot fs p a r = rw (past_none l spot.start fs p spot.used r) refl

  -- one more digit
  digit_step : (spot : Spot) (fs : List Frame) (p : Purpose) (a d to n : ℕ) → d < 128 → n ≡ 128 * a + d → n < 2 ^ 63 → to ≡ spot.used + 1
      → NumberRoom l spot.start fs p (to + 1)
      → feed (under g l) (at spot fs (InNumber p a)) d ≡ Outcome.goes (at (moved spot to) fs (InNumber p n))
  digit_step spot fs p a d to n h e k i r =
      rw (e, i, lt-ltb d 128 h, lt-ltb (128 * a + d) (2 ^ 63) (omega arith)) (longer_goes _ fs p (128 * a + d) (rw i at r))

  -- the digits of a number but the last
  digits_run : (spot : Spot) (fs : List Frame) (p : Purpose) (ds : List ℕ) (to : ℕ) → Digits128 ds → positional 128 ds < 2 ^ 63 → to ≡ spot.used + length ds
      → NumberRoom l spot.start fs p (to + 1)
      → run g l spot.used (at spot fs (InNumber p 0)) ds ≡ led (at (moved spot to) fs (InNumber p (positional 128 ds)))
  digits_run spot fs p _ to none h e r = ap (λ n. led (at (moved spot n) fs (InNumber p 0))) (omega arith)
  digits_run spot fs p _ to (more ds d q0 q) h e r =
      let i = digits_more ds d in
      let k = length-one ds d in
      let mid = spot.used + length ds in
      run_step g l spot.used mid _ (at (moved spot mid) fs (InNumber p (positional 128 ds))) _ ds d refl
      (digits_run spot fs p ds mid q0 (omega arith) refl (number_less l spot.start fs p _ _ (omega arith) r))
      (ap (run_after (mid + 1)) (digit_step (moved spot mid) fs p (positional 128 ds) d to _ q i h (omega arith) r))

  -- the last octet of a number
  pub last_step : (spot : Spot) (fs : List Frame) (p : Purpose) (a b to n : ℕ) → 128 ≤ b → n ≡ 128 * a + (b - 128) → n < 2 ^ 63 → to ≡ spot.used + 1
      → feed (under g l) (at spot fs (InNumber p a)) b ≡ number_came (under g l) (moved spot to) fs p n
  last_step spot fs p a b to n h e k i = rw (i, le-ltb b 128 h, ← e, lt-ltb n (2 ^ 63) k) refl

  -- a whole VarUInt
  pub number_run : (spot : Spot) (fs : List Frame) (p : Purpose) (w : List ℕ) (n to : ℕ) → VarUInt w n → to ≡ spot.used + length w
      → NumberRoom l spot.start fs p to
      → run g l spot.used (at spot fs (InNumber p 0)) w ≡ run_after to (number_came (under g l) (moved spot to) fs p n)
  number_run spot fs p w n to v e r =
      let i = positional_push 128 v.digits v.last in
      let k : length w ≡ length v.digits + 1 = ap length v.octets ∙ length-one v.digits (128 + v.last) in
      let vl = v.value in
      let vb = v.bound in
      let mid = spot.used + length v.digits in
      let j : mid + 1 ≡ to = omega arith in
      rw v.octets
      (run_step g l spot.used mid _ (at (moved spot mid) fs (InNumber p (positional 128 v.digits))) _ v.digits (128 + v.last) refl
      (digits_run spot fs p v.digits mid v.small (omega arith) refl (number_less l spot.start fs p _ _ (omega arith) r))
      (rw (last_step (moved spot mid) fs p (positional 128 v.digits) (128 + v.last) to n (omega arith) (omega arith) vb (omega arith), j) refl))

  -- where an outcome leads over a front to a machine, the run goes on from that machine
  outcome_via : (to mid : ℕ) (o : Outcome) (n : Machine) (r : Run) (u w : List ℕ) → mid ≡ to + length u → run_on to (λ m. run g l to m u) o ≡ led n
      → run g l mid n w ≡ r → run_on to (λ m. run g l to m (u ++ w)) o ≡ r
  outcome_via to mid o n r u w e h k = rw (on_outcome g l to mid u w (run-append g l to mid u w e) o, h) k

  -- a header, where its body may end
  pub header_run : (spot : Spot) (fs : List Frame) (form : Form) (h : List ℕ) (n to : ℕ) → Header form n h → hollow form n ≡ None → Admits fs form
      → to ≡ spot.used + length h → BodyMayEnd l spot.start fs form (to + n)
      → run g l spot.used (at spot fs Ready) h ≡ run_after to (begin (under g l) (moved spot to) fs form n)
  header_run spot fs form _ n to (short b d) hol a e r =
      rw (e, d, sized_begins (moved spot (spot.used + 1)) fs form n hol a (rw e at r)) refl
  header_run spot fs form _ n to (long b h d v) hol a e r =
      let k = length_VarUInt h n v in
      run_via g l spot.used (spot.used + 1) (at spot fs Ready) (at (moved spot (spot.used + 1)) fs (InNumber (Purpose.Length form) 0)) _ (b ∷ []) h refl
      (rw (d, unsized_goes (moved spot (spot.used + 1)) fs form a (ends_room l spot.start fs form _ _ (omega arith) r)) refl)
      (number_run _ fs _ h n to v (omega arith) (ends_room l spot.start fs form _ _ (omega arith) r) ∙ ap (run_after to) (sized_begins _ fs form n hol a r))

  -- bodies

  -- behind the header of a scalar that has octets, its body begins
  pub begin_scalar : (spot : Spot) (fs : List Frame) (t : Scalar) (n : ℕ) → begin (under g l) spot fs (Form.Scalar t) (suc n)
      ≡ Outcome.goes (in_body spot fs t n [])
  begin_scalar spot fs t n = let j : suc n - 1 ≡ n = omega arith in rw (ne_eqb (suc n) 0 (λ e. omega arith), j) refl

  -- behind the header of a pad that has octets, they begin
  pub begin_pad : (spot : Spot) (fs : List Frame) (n : ℕ) → begin (under g l) spot fs Form.Pad (suc n) ≡ Outcome.goes (at spot fs (InPad n))
  begin_pad spot fs n = pad_more g l spot fs n

  -- the octets of a body, behind those that have come
  pub body_run : (spot : Spot) (fs : List Frame) (t : Scalar) (n : ℕ) (came body : List ℕ) (to : ℕ) → length body ≡ suc n → to ≡ spot.used + length body
      → run g l spot.used (in_body spot fs t n came) body ≡ run_after to (judged (under g l) (moved spot to) fs (judge spot.context t (came ++ body)))
  body_run spot fs t zero came (b ∷ []) to h e = rw e refl
  body_run spot fs t (suc n) came (b ∷ bs) to h e =
      rw (body_more g l (moved spot (spot.used + 1)) fs t n came b)
      (rw (append_assoc came) at (body_run (moved spot (spot.used + 1)) fs t n (came ++ b ∷ []) bs to (omega arith) (omega arith)))
  body_run spot fs t _ came _ to h e = absurd (omega arith)

  pad_run : (spot : Spot) (fs : List Frame) (n : ℕ) (body : List ℕ) (to : ℕ) → length body ≡ suc n → to ≡ spot.used + length body
      → run g l spot.used (at spot fs (InPad n)) body ≡ run_after to (proceed (under g l) (moved spot to) fs)
  pad_run spot fs zero (b ∷ []) to h e = rw e refl
  pad_run spot fs (suc n) (b ∷ bs) to h e =
      rw (pad_more g l (moved spot (spot.used + 1)) fs n) (pad_run (moved spot (spot.used + 1)) fs n bs to (omega arith) (omega arith))
  pad_run spot fs _ _ to h e = absurd (omega arith)

  -- a run from a header on
  from_header : (spot : Spot) (fs : List Frame) (form : Form) (h body : List ℕ) (mid : ℕ) (r : Run) → Header form (length body) h → hollow form (length body)
      ≡ None → Admits fs form → mid ≡ spot.used + length h → BodyMayEnd l spot.start fs form (mid + length body)
      → run_on mid (λ n. run g l mid n body) (begin (under g l) (moved spot mid) fs form (length body)) ≡ r
      → run g l spot.used (at spot fs Ready) (h ++ body) ≡ r
  from_header spot fs form h body mid r d hol a e room k =
      rw (run-append g l spot.used mid h body e, header_run spot fs form h _ mid d hol a e room)
      (then_after mid (begin (under g l) (moved spot mid) fs form (length body)) (λ n. run g l mid n body) ∙ k)

  scalar_ends : (spot : Spot) (fs : List Frame) (t : Scalar) (body : List ℕ) (to : ℕ) → to ≡ spot.used + length body
      → run_on spot.used (λ n. run g l spot.used n body) (begin (under g l) spot fs (Form.Scalar t) (length body))
      ≡ run_after to (judged (under g l) (moved spot to) fs (judge spot.context t body))
  scalar_ends spot fs t [] to e = let j : to ≡ spot.used = omega arith in rw j refl
  scalar_ends spot fs t (b ∷ bs) to e = rw (begin_scalar spot fs t (length bs)) (body_run spot fs t (length bs) [] (b ∷ bs) to refl e)

  scalar_begins : (spot : Spot) (fs : List Frame) (t : Scalar) (body : List ℕ) (p : Payload) (to : ℕ) → judge spot.context t body ≡ Ok p
      → to ≡ spot.used + length body
      → run_on spot.used (λ n. run g l spot.used n body) (begin (under g l) spot fs (Form.Scalar t) (length body))
      ≡ run_after to (deliver (under g l) (moved spot to) fs (bare p))
  scalar_begins spot fs t body p to i e = rw (scalar_ends spot fs t body to e, i) refl

  -- over a scalar for which there is room, the machine comes to judge its body
  pub scalar_run : (spot : Spot) (fs : List Frame) (t : Scalar) (h body : List ℕ) (to : ℕ) → Header (Form.Scalar t) (length body) h
      → hollow (Form.Scalar t) (length body) ≡ None → Admits fs (Form.Scalar t) → to ≡ spot.used + length (h ++ body)
      → BodyMayEnd l spot.start fs (Form.Scalar t) to
      → run g l spot.used (at spot fs Ready) (h ++ body) ≡ run_after to (judged (under g l) (moved spot to) fs (judge spot.context t body))
  scalar_run spot fs t h body to d hol a e r =
      let k = length-append h body in
      let m : to ≡ spot.used + length h + length body = omega arith in
      from_header spot fs (Form.Scalar t) h body (spot.used + length h) _ d hol a refl (rw m at r)
      (scalar_ends (moved spot (spot.used + length h)) fs t body to m)

  pad_begins : (spot : Spot) (fs : List Frame) (body : List ℕ) (to : ℕ) → to ≡ spot.used + length body
      → run_on spot.used (λ n. run g l spot.used n body) (begin (under g l) spot fs Form.Pad (length body))
      ≡ run_after to (proceed (under g l) (moved spot to) fs)
  pad_begins spot fs [] to e = let j : to ≡ spot.used = omega arith in rw j refl
  pad_begins spot fs (b ∷ bs) to e = rw (begin_pad spot fs (length bs)) (pad_run spot fs (length bs) (b ∷ bs) to refl e)

  -- over a pad for which there is room, the machine comes to go on without a value
  pub skip_run : (spot : Spot) (fs : List Frame) (w : List ℕ) (to : ℕ) → IsPad w → Admits fs Form.Pad → to ≡ spot.used + length w
      → BodyMayEnd l spot.start fs Form.Pad to
      → run g l spot.used (at spot fs Ready) w ≡ run_after to (proceed (under g l) (moved spot to) fs)
  skip_run spot fs _ to (skipped h body d) a e r =
      let k = length-append h body in
      let m : to ≡ spot.used + length h + length body = omega arith in
      from_header spot fs Form.Pad h body (spot.used + length h) _ d refl a refl (rw m at r)
      (pad_begins (moved spot (spot.used + length h)) fs body to m)

  -- where a container goes on, it waits for what comes next
  pub items_go : (spot : Spot) (fs : List Frame) (end : ℕ) (x : ListOrSexp) (vs : List Value) → spot.used < end
      → proceed (under g l) spot (frames.Items end x vs ∷ fs) ≡ Outcome.goes (at spot (frames.Items end x vs ∷ fs) Ready)
  items_go spot fs end x vs h = cond-false _ _ _ (ne_eqb spot.used end (λ e. omega arith))

  -- where a struct goes on, the name of a field comes
  pub fields_go : (spot : Spot) (fs : List Frame) (end : ℕ) (ms : List Field) → spot.used < end → proceed (under g l) spot (frames.Fields end ms ∷ fs)
      ≡ Outcome.goes (at spot (frames.Fields end ms ∷ fs) (InNumber Purpose.FieldName 0))
  fields_go spot fs end ms h = cond-false _ _ _ (ne_eqb spot.used end (λ e. omega arith))

  -- a field name, where a value or a pad follows
  pub name_run : (spot : Spot) (fs : List Frame) (end : ℕ) (ms : List Field) (id : List ℕ) (k to : ℕ) (r : Result (Option (List ℕ)) Reason) → VarUInt id k
      → resolve spot.context k ≡ r → to ≡ spot.used + length id → to < end
      → run g l spot.used (at spot (frames.Fields end ms ∷ fs) (InNumber Purpose.FieldName 0)) id ≡ led (at (moved spot to) (frames.Named end ms r ∷ fs) Ready)
  name_run spot fs end ms id k to r v i h e =
      rw (lt-ltb to end e, i) at (number_run spot (frames.Fields end ms ∷ fs) Purpose.FieldName id k to v h (omega arith))

  -- the annotations
  pub ids_run : (spot : Spot) (fs : List Frame) (end stop : ℕ) (us : List ℕ) (ss : List (Option (List ℕ))) (to : ℕ) → Ids spot.context us ss → spot.used < stop
      → to ≡ spot.used + length us → to ≤ stop
      → run g l spot.used (at spot (frames.Annotated end [] ∷ fs) (InNumber (Purpose.Annotation stop) 0)) us
      ≡ led (at (moved spot to) (frames.Annotated end ss ∷ fs) (cond (to == stop) Ready (InNumber (Purpose.Annotation stop) 0)))
  ids_run spot fs end stop _ _ to no_ids h i j =
      let n : to ≡ spot.used = omega arith in
      rw (n, ne_eqb spot.used stop (λ k. omega arith)) refl
  ids_run spot fs end stop _ _ to (one_id us w ss k s b v r) h i j =
      let n = length-append us w in
      let m = length_VarUInt w k v in
      let mid = spot.used + length us in
      run_via g l spot.used mid _ _ _ us w refl
      (rw (ne_eqb mid stop (λ k. omega arith)) at (ids_run spot fs end stop us ss mid b h refl (omega arith)))
      (rw r at (number_run (moved spot mid) (frames.Annotated end ss ∷ fs) (Purpose.Annotation stop) w k to v (omega arith) j))

  -- behind the number of annotation octets, if it is good, the first id comes
  pub count_goes : (spot : Spot) (fs : List Frame) (end n : ℕ) (ss : List (Option (List ℕ))) → 0 < n → spot.used + n < end
      → count_came spot (frames.Annotated end ss ∷ fs) n ≡ Outcome.goes
      (at spot (frames.Annotated end ss ∷ fs) (InNumber (Purpose.Annotation (spot.used + n)) 0))
  count_goes spot fs end n ss h r = rw (ne_eqb n 0 (λ k. omega arith), lt-ltb (spot.used + n) end r) refl

  -- a wrapper up to its value
  wrapper_run : (spot : Spot) (fs : List Frame) (h count ids w : List ℕ) (ss : List (Option (List ℕ))) (end : ℕ)
      → Header Form.Wrapper (length (count ++ (ids ++ w))) h → VarUInt count (length ids) → 0 < length ids → Ids spot.context ids ss → 0 < length w
      → Admits fs Form.Wrapper
      → end ≡ spot.used + length h + (length count + (length ids + length w)) → BodyMayEnd l spot.start fs Form.Wrapper end
      → (r : Run) → run g l (spot.used + length h + length count + length ids)
      (at (moved spot (spot.used + length h + length count + length ids)) (frames.Annotated end ss ∷ fs) Ready) w ≡ r
      → run g l spot.used (at spot fs Ready) (h ++ (count ++ (ids ++ w))) ≡ r
  wrapper_run spot fs h count ids w ss end d v n i m a e x r k =
      let n1 = length-append count (ids ++ w) in
      let n2 = length-append ids w in
      let mid = spot.used + length h in
      let mid2 = mid + length count in
      let mid3 = mid2 + length ids in
      let is_end : end ≡ mid + length (count ++ (ids ++ w)) = omega arith in
      from_header spot fs Form.Wrapper h _ mid r d (cond-false _ _ _ (ne_eqb (length (count ++ (ids ++ w))) 0 (λ e. omega arith))) a refl
      (rw is_end at x)
      (rw (← is_end) (run_via g l mid mid2 _ _ r count _ refl (number_run _ _ Purpose.AnnotationsLength count _ mid2 v refl (omega arith)
      ∙ ap (run_after mid2) (count_goes (moved spot mid2) fs end _ [] n (omega arith)))
      (run_via g l mid2 mid3 _ _ r ids w refl
      (rw (eq-eqb mid3 mid3 refl) at (ids_run (moved spot mid2) fs end mid3 ids ss mid3 i (omega arith) refl (omega arith))) k)))

  pub one_run : (spot : Spot) (fs : List Frame) (to : ℕ) (p : Payload) → to ≡ spot.used + 1 → nameless fs Form.Struct ≡ None
      → BodyMayEnd l spot.start fs Form.Struct to
      → run_after (spot.used + 1) (one_octet (under g l) (moved spot (spot.used + 1)) fs p) ≡ run_after to (deliver (under g l) (moved spot to) fs (bare p))
  one_run spot fs to p e a r = rw (← e, unfit_none l spot.start fs Form.Struct to (admits_plain fs Form.Struct refl refl a) r) refl

  -- the body of a struct, where its fields run so
  struct_run : (spot : Spot) (fs : List Frame) (to : ℕ) (body : List ℕ) (ms : List Field) → to ≡ spot.used + length body → levels fs < l.depth
      → run_on spot.used (λ n. run g l spot.used n body) (proceed (under g l) spot (frames.Fields (spot.used + length body) [] ∷ fs))
      ≡ run_after to (proceed (under g l) (moved spot to) (frames.Fields (spot.used + length body) ms ∷ fs))
      → run_on spot.used (λ n. run g l spot.used n body) (open_struct (under g l) spot fs (length body))
      ≡ run_after to (deliver (under g l) (moved spot to) fs (bare (payloads.Fields ms)))
  struct_run spot fs to body ms m q k =
      rw (lt-ltb (levels fs) l.depth q) (rw (eq-eqb to (spot.used + length body) m) at k)

  wrapper_named : (fs : List Frame) → nameless fs Form.Wrapper ≡ None → nameless fs Form.Struct ≡ None
  wrapper_named (frames.Named end ms (Err e) ∷ fs) h = absurd cc
  wrapper_named _ h = refl

  -- an id isn't resolved before a pad
  pad_named : (end : ℕ) (ms : List Field) (r : Result (Option (List ℕ)) Reason) (fs : List Frame) → nameless (frames.Named end ms r ∷ fs) Form.Pad ≡ None
  pad_named end ms (Ok s) fs = refl
  pad_named end ms (Err e) fs = refl

  mutual
    -- with the slots as an argument of their own, as the recursion asks

    -- a value without annotations, where there is room for it
    plain_run : (used start : ℕ) (c : List Slot) (fs : List Frame) (to : ℕ) (w : List ℕ) (p : Payload) → Plain c w p → nameless fs Form.Struct ≡ None
        → to ≡ used + length w → BodyMayEnd l start fs Form.Struct to → depth (bare p) + levels fs ≤ l.depth
        → run g l used (at (spot_at used start c) fs Ready) w ≡ run_after to (deliver (under g l) (spot_at to start c) fs (bare p))
    plain_run used start c fs to _ _ (is_null b k d) a e r q = rw d (one_run (spot_at used start c) fs to _ e a r)
    plain_run used start c fs to _ _ (is_truth b k d) a e r q = rw d (one_run (spot_at used start c) fs to _ e a r)
    plain_run used start c fs to _ _ (is_scalar h body t p d i) a e r q =
        let k = length-append h body in
        let m : to ≡ used + length h + length body = omega arith in
        from_header (spot_at used start c) fs (Form.Scalar t) h body (used + length h) _ d (hollow_scalar c t body p (judge_scalar c body t p i))
        (admits_plain fs (Form.Scalar t) refl refl a) refl (ends_as l start fs (Form.Scalar t) _ (rw m at r))
        (scalar_begins (spot_at (used + length h) start c) fs t body p to (judge_scalar c body t p i) m)
    plain_run used start c fs to _ _ (is_listing h body x vs d b) a e r q =
        let k = length-append h body in
        let mid = used + length h in
        let dv = depth-listed x vs in
        let m : to ≡ mid + length body = omega arith in
        from_header _ fs _ h body mid _ d refl (admits_plain fs _ refl refl a) refl (ends_as l start fs _ _ (rw m at r))
        (rw (lt-ltb (levels fs) l.depth (omega arith))
        (rw (eq-eqb to (mid + length body) m) at (items_run mid start c fs (mid + length body) x to body vs b m (omega arith) (omega arith))))
    plain_run used start c fs to _ _ (is_struct h body ms d b) a e r q =
        let k = length-append h body in
        let mid = used + length h in
        let dv = depth-fields ms in
        let m : to ≡ mid + length body = omega arith in
        from_header _ fs Form.Struct h body mid _ d refl (admits_plain fs Form.Struct refl refl a) refl (rw m at r)
        (struct_run _ fs to body ms m (omega arith) (fields_run mid start c fs _ to body ms b m (omega arith) (omega arith)))
    plain_run used start c fs to _ _ (is_ordered h body ms d n b) a e r q =
        let k = length-append h body in
        let mid = used + length h in
        let dv = depth-fields ms in
        let m : to ≡ mid + length body = omega arith in
        from_header _ fs Form.OrderedStruct h body mid _ d (cond-false _ _ _ (ne_eqb (length body) 0 (λ e. omega arith)))
        (admits_plain fs Form.OrderedStruct refl refl a) refl (ends_as l start fs Form.OrderedStruct _ (rw m at r))
        (struct_run _ fs to body ms m (omega arith) (fields_run mid start c fs _ to body ms b m (omega arith) (omega arith)))

    -- a value, where there is room for it
    value_run : (used start : ℕ) (c : List Slot) (fs : List Frame) (to : ℕ) (w : List ℕ) (v : Value) → Binary c w v → Admits fs Form.Wrapper
        → to ≡ used + length w → BodyMayEnd l start fs Form.Struct to → depth v + levels fs ≤ l.depth
        → run g l used (at (spot_at used start c) fs Ready) w ≡ run_after to (deliver (under g l) (spot_at to start c) fs v)
    value_run used start c fs to _ _ (unannotated w p b) a e r q = plain_run used start c fs to w p b (wrapper_named fs a.named) e r q
    value_run used start c fs to _ _ (wrapped h count ids w ss p d v n i b) a e r q =
        let n0 = length-append h (count ++ (ids ++ w)) in
        let n1 = length-append count (ids ++ w) in
        let n2 = length-append ids w in
        let dp = depth-annotated ss p in
        wrapper_run (spot_at used start c) fs h count ids w ss to d v n i (plain_some c w p b) a (omega arith) (ends_as l start fs Form.Wrapper to r) _
        (plain_run (used + length h + length count + length ids) start c (frames.Annotated to ss ∷ fs) to w p b refl (omega arith) refl (omega arith))

    -- the items of a list or s-expression that ends at `end`
    pub items_run : (used start : ℕ) (c : List Slot) (fs : List Frame) (end : ℕ) (x : ListOrSexp) (to : ℕ) (w : List ℕ) (vs : List Value) → Sequence c w vs
        → to ≡ used + length w → to ≤ end → depths vs + suc (levels fs) ≤ l.depth
        → run_on used (λ n. run g l used n w) (proceed (under g l) (spot_at used start c) (frames.Items end x [] ∷ fs))
        ≡ run_after to (proceed (under g l) (spot_at to start c) (frames.Items end x vs ∷ fs))
    items_run used start c fs end x to _ _ nothing e r q = let j : to ≡ used = omega arith in rw j refl
    items_run used start c fs end x to _ _ (one_more us w vs v b d) e r q =
        let k = length-append us w in
        let j = binary_some c w v d in
        let m = deepest-more vs v in
        let mid = used + length us in
        outcome_via used mid _ _ _ us w refl
        (rw (items_go (spot_at mid start c) fs end x vs (omega arith)) at (items_run used start c fs end x mid us vs b refl (omega arith) (omega arith)))
        (value_run mid start c (frames.Items end x vs ∷ fs) to w v d (record { fitting = refl; named = refl }) (omega arith) r (omega arith))
    items_run used start c fs end x to _ _ (padded us w vs b d) e r q =
        let k = length-append us w in
        let j = pad_some w d in
        let mid = used + length us in
        outcome_via used mid _ _ _ us w refl
        (rw (items_go (spot_at mid start c) fs end x vs (omega arith)) at (items_run used start c fs end x mid us vs b refl (omega arith) q))
        (skip_run (spot_at mid start c) (frames.Items end x vs ∷ fs) w to d (record { fitting = refl; named = refl }) (omega arith) r)

    -- the fields of a struct that ends at `end`
    pub fields_run : (used start : ℕ) (c : List Slot) (fs : List Frame) (end to : ℕ) (w : List ℕ) (ms : List Field) → Fields c w ms → to ≡ used + length w
        → to ≤ end → field_depths ms + suc (levels fs) ≤ l.depth
        → run_on used (λ n. run g l used n w) (proceed (under g l) (spot_at used start c) (frames.Fields end [] ∷ fs))
        ≡ run_after to (proceed (under g l) (spot_at to start c) (frames.Fields end ms ∷ fs))
    fields_run used start c fs end to _ _ no_fields e r q = let j : to ≡ used = omega arith in rw j refl
    fields_run used start c fs end to _ _ (one_field us id w ms k s v b n y d) e r q =
        let n0 = length-append us (id ++ w) in
        let n1 = length-append id w in
        let j = binary_some c w v d in
        let m = field_deepest-more ms (field_of s v) in
        let mid = used + length us in
        let mid2 = mid + length id in
        outcome_via used mid _ _ _ us (id ++ w) refl
        (rw (fields_go (spot_at mid start c) fs end ms (omega arith)) at (fields_run used start c fs end mid us ms b refl (omega arith) (omega arith)))
        (run_via g l mid mid2 _ _ _ id w refl (name_run _ fs end ms id k mid2 _ n y refl (omega arith))
        (value_run mid2 start c _ to w v d (record { fitting = refl; named = refl }) (omega arith) r (omega arith)))
    fields_run used start c fs end to _ _ (padded_field us id w ms k b n d) e r q =
        let n0 = length-append us (id ++ w) in
        let n1 = length-append id w in
        let j = pad_some w d in
        let mid = used + length us in
        let mid2 = mid + length id in
        outcome_via used mid _ _ _ us (id ++ w) refl
        (rw (fields_go (spot_at mid start c) fs end ms (omega arith)) at (fields_run used start c fs end mid us ms b refl (omega arith) q))
        (run_via g l mid mid2 _ _ _ id w refl (name_run _ fs end ms id k mid2 _ n refl refl (omega arith))
        (skip_run _ _ w to d (record { fitting = refl; named = pad_named end ms _ fs }) (omega arith) r))

  -- a value, where there is room for it
  pub binary_run : (spot : Spot) (fs : List Frame) (to : ℕ) (w : List ℕ) (v : Value) → Binary spot.context w v → Admits fs Form.Wrapper
      → to ≡ spot.used + length w → BodyMayEnd l spot.start fs Form.Struct to → depth v + levels fs ≤ l.depth
      → run g l spot.used (at spot fs Ready) w ≡ run_after to (deliver (under g l) (moved spot to) fs v)
  binary_run spot fs to w v b a e r q = value_run spot.used spot.start spot.context fs to w v b a e r q

  -- over a version marker, the machine comes to the top level with the system symbols
  pub marker_run : (spot : Spot) → run g l spot.used (at spot [] Ready) the_marker ≡ led (at (anew (spot.used + 4) system_slots) [] Ready)
  unfolding opening_of descriptor_of
  marker_run spot = ap (λ n. led (at (anew n system_slots) [] Ready)) (let j : spot.used + 1 + 1 + 1 + 1 ≡ spot.used + 4 = omega arith in j)
