-- What a descriptor leaves stands for the octets, and so does what the end of a header begins.
use Rattle.std.proofs.Common.{◌≡◌, ℕ, zero, suc, ◌+◌, ◌≤◌, List, [], ◌∷◌, ◌++◌, length, Some, None, refl, ap, sym, ◌∙◌, subst, inr, arith, length-append, false, append-nil, ltb-true, ltb-false, nat_lt}
use Rattle.std.proofs.lemmas.Bool.{cond_both}
use Rattle.ion_binary.specs.Names.{Catalog, Decides, Depth, Follows, Form, Frame, Header, Known, Limits, Malformed, Marker, Null, Opening, Payload, Plain, Purpose, Reason, Refused, Sized, Slot, Spot, Truth, Value, a_null, a_truth, bad_empty_body, bare, begin, by_descriptor, deliver, depth, hollow, is_null, is_scalar, is_truth, judge, length-one, levels, misfits, nameless, no_descriptor, no_fields, nothing, on_descriptor, one_octet, open_struct, opening_of, or_else, short, sized, skipped, stray, under, unending, unfit}
use Rattle.ion_model.specs.declared.value.Payload.TheVariants as payloads
use Rattle.ion_model.specs.laws.Measures.{depth-Null, depth-Truth}
use Rattle.ion_binary.specs.Deciding as deciding
use Rattle.ion_binary.specs.machine.Frames as frames
use Rattle.ion_binary.specs.laws.reading.Complete.{begin_pad, begin_scalar}
use Rattle.ion_binary.specs.laws.reading.Judged.{judge_sound, scalar_flat}
use Rattle.ion_binary.specs.laws.reading.Openings.{opened_open, takes}
use Rattle.ion_binary.specs.laws.reading.RefusedRows.{HeaderEnds, deep_row, follows_name, follows_stray, hollow_row, marker_row, one_row, short_row, unending_row}
use Rattle.ion_binary.specs.laws.reading.Stands.{Accepts, AwaitsDescriptor, BodyMayEnd, BodyStands, Box, Fitting, Inside, IsStructOf, Leaves, Opened, Receives}
use Rattle.ion_binary.specs.laws.reading.sound.Bounds.{ends_back, judged_leaves, misfits_ends, named_struct, number_awaited, or_none, stray_accepts, unending_going, unless_leaves}
use Rattle.ion_binary.specs.laws.reading.sound.Containers.{deliver_stands, fields_stand, items_stand, plain_comes, shallow, skip_stands}
use Rattle.ion_binary.specs.laws.reading.sound.Markers.{marker_is}

module _ (g : Catalog) (l : Limits) where
  -- behind a header
  abbrev boxed : (start : ℕ) (c : List Slot) (s : List Value) (fs : List Frame) (u h : List ℕ) (form : Form) (n end : ℕ) → Opened g l start c s fs u
      → Header form n h → end ≡ length (u ++ h) + n → BodyMayEnd l start fs form end → Fitting fs form
      → Box l start (Opened g l start c s fs) fs form end (u ++ h)
  boxed start c s fs u h form n end o d i r ad = record { before = u; header = h; n = n; whole = refl; outer = o; head = d; ends = i; room = r; admits = ad }

  -- before the first octet of a body
  awaits_body : (start : ℕ) (c : List Slot) (s : List Value) (fs : List Frame) (u h : List ℕ) (form : Form) (n end : ℕ) → Opened g l start c s fs u
      → Accepts form fs → Fitting fs form → Header form (suc n) h → end ≡ length u + length h + suc n → BodyMayEnd l start fs form end
      → BodyStands g l start c s fs form n [] (u ++ h)
  awaits_body start c s fs u h form n end o a ad d i r = record {
    before = u;
    header = h;
    whole = ap (λ x. u ++ x) (sym (append-nil h));
    outer = o;
    accepts = a;
    admits = ad;
    size = suc n;
    sizes = omega arith;
    end = end;
    ends = i;
    head = d;
    room = r;
  }

  struct_begins : (spot : Spot) (s : List Value) (fs : List Frame) (u h : List ℕ) (form : Form) (n : ℕ) → IsStructOf form n
      → Opened g l spot.start spot.context s fs u → Header form n h → spot.used ≡ length (u ++ h) → BodyMayEnd l spot.start fs form (spot.used + n)
      → Fitting fs form → (l.depth ≤ levels fs → Decides g l (u ++ h) Depth)
      → Leaves g l (u ++ h) s (open_struct (under g l) spot fs n)
  struct_begins spot s fs u h form n i o d e r ad deepest = cond_both (nat_lt (levels fs) l.depth) _ _ (Leaves g l (u ++ h) s)
      (λ j. let deep = ltb-true (levels fs) l.depth j in
      fields_stand g l spot s fs _ _ [] (deliver_stands g l spot s fs)
      (record {
        front = u ++ h;
        body = [];
        form = form;
        whole = sym (append-nil (u ++ h));
        box = boxed spot.start spot.context s fs u h form n (spot.used + n) o d (omega arith) r ad;
        kind = i;
        items = no_fields;
        deep = omega arith;
        within = omega arith;
      }) e)
      (λ j. deepest (ltb-false (levels fs) l.depth j))

  begin_stands : (spot : Spot) (s : List Value) (fs : List Frame) (u h : List ℕ) (form : Form) (n : ℕ) → Opened g l spot.start spot.context s fs u
      → Accepts form fs → Header form n h → spot.used ≡ length (u ++ h) → BodyMayEnd l spot.start fs form (spot.used + n) → Fitting fs form
      → HeaderEnds g l spot.context spot.start fs form n (u ++ h) → hollow form n ≡ None
      → Leaves g l (u ++ h) s (begin (under g l) spot fs form n)
  begin_stands spot s fs u h Form.Pad zero o a d e r ad hr h0 =
      skip_stands g l spot s fs u h o a.0 a.1 (rw (append-nil h) at (skipped h [] d)) e (subst (BodyMayEnd l spot.start fs Form.Pad) (omega arith) r)
  begin_stands spot s fs u h Form.Pad (suc n) o a d e r ad hr h0 =
      let k = length-append u h in
      rw (begin_pad g l spot fs n) (record {
        used = e;
        standing = ([], awaits_body spot.start spot.context s fs u h Form.Pad n (spot.used + suc n) o a ad d (omega arith) r);
      })
  begin_stands spot s fs u h (Form.Scalar t) zero o a d e r ad hr h0 =
      let sh = shallow g l spot.start spot.context s fs u o in
      judged_leaves g l (u ++ h) s spot fs (judge spot.context t []) (λ x j. bad_empty_body spot.context spot.start hr.ks t (u ++ h) x hr.ends j) (λ p j.
      let is = judge_sound spot.context t [] p j in
      let flat = scalar_flat spot.context [] t p is in
      deliver_stands g l spot s fs u h (bare p) o (plain_comes spot.context fs h p (rw (append-nil h) at (is_scalar h [] t p d is))) e (omega arith)
      (ends_back l spot.start fs (Form.Scalar t) spot.used refl (subst (BodyMayEnd l spot.start fs (Form.Scalar t)) (omega arith) r)) ad.receives
      (named_struct fs (Form.Scalar t) refl ad.named))
  begin_stands spot s fs u h (Form.Scalar t) (suc n) o a d e r ad hr h0 =
      let k = length-append u h in
      rw (begin_scalar g l spot fs t n) (record {
        used = e;
        standing = awaits_body spot.start spot.context s fs u h (Form.Scalar t) n (spot.used + suc n) o a ad d (omega arith) r;
      })
  begin_stands spot s fs u h (Form.ListOrSexp x) n o a d e r ad hr h0 = cond_both (nat_lt (levels fs) l.depth) _ _ (Leaves g l (u ++ h) s)
      (λ j. let deep = ltb-true (levels fs) l.depth j in
      items_stand g l spot s fs _ _ x [] (deliver_stands g l spot s fs)
      (record {
        front = u ++ h;
        body = [];
        whole = sym (append-nil (u ++ h));
        box = boxed spot.start spot.context s fs u h (Form.ListOrSexp x) n (spot.used + n) o d (omega arith) r ad;
        items = nothing;
        deep = omega arith;
        within = omega arith;
      }) e)
      (λ j. deep_row g l spot.context spot.start fs _ n _ hr tt (ltb-false (levels fs) l.depth j))
  begin_stands spot s fs u h Form.Struct n o a d e r ad hr h0 =
      struct_begins spot s fs u h Form.Struct n tt o d e r ad (λ j. deep_row g l spot.context spot.start fs Form.Struct n (u ++ h) hr tt j)
  begin_stands spot s fs u h Form.OrderedStruct (suc n) o a d e r ad hr h0 =
      struct_begins spot s fs u h Form.OrderedStruct _ (omega arith) o d e r ad (λ j. deep_row g l spot.context spot.start fs Form.OrderedStruct _ _ hr tt j)
  begin_stands spot s fs u h Form.Wrapper (suc n) o a d e r ad hr h0 =
      let box = boxed spot.start spot.context s fs u h Form.Wrapper (suc n) (spot.used + suc n) o d (omega arith) r ad in record {
        used = e;
        standing = number_awaited g l spot.start spot.context s (frames.Annotated (spot.used + suc n) [] ∷ fs) Purpose.AnnotationsLength (u ++ h)
            (record { box = box; bare = a; none_yet = refl }) (omega arith);
      }
  begin_stands spot s fs u h _ _ o a d e r ad hr h0 = let q : Some Malformed ≡ None = h0 in absurd cc

  -- what a whole header leads to stands for the octets
  pub sized_stands : (spot : Spot) (s : List Value) (fs : List Frame) (u h : List ℕ) (form : Form) (n : ℕ) → Opened g l spot.start spot.context s fs u
      → (stray fs form ≡ None → Accepts form fs) → Header form n h → spot.used ≡ length (u ++ h) → Receives fs
      → HeaderEnds g l spot.context spot.start fs form n (u ++ h)
      → ((x : Reason) → unfit l.item spot.start fs form (length (u ++ h) + n) ≡ Some x → Decides g l (u ++ h) x)
      → Leaves g l (u ++ h) s (sized (under g l) spot fs form n)
  sized_stands spot s fs u h form n o a d e rc hr rows = unless_leaves g l _ s _ _ (hollow_row g l spot.context spot.start fs form n _ hr) (λ j0.
      unless_leaves g l _ s _ _
      (λ x i. rows x (ap (λ k. unfit l.item spot.start fs form (k + n)) (sym e) ∙ i)) (λ j.
      let j1 = or_none (stray fs form) (or_else (misfits l.item spot.start fs form (spot.used + n)) (nameless fs form)) j in
      let j2 = or_none (misfits l.item spot.start fs form (spot.used + n)) (nameless fs form) j1.1 in
      begin_stands spot s fs u h form n o (a j1.0) d e (misfits_ends l spot.start fs form _ j2.0)
      (record { receives = rc; fitting = j1.0; named = j2.1 }) hr j0))

  -- a value of one octet
  one_stands : (spot : Spot) (s : List Value) (fs : List Frame) (u : List ℕ) (b : ℕ) (p : Payload) → Opened g l spot.start spot.context s fs u
      → spot.used ≡ length (u ++ b ∷ []) → Plain spot.context (b ∷ []) p → depth (bare p) ≡ 0 → Receives fs → Inside fs (length u)
      → ((ks : _) → deciding.Open g l spot.context spot.start ks u → deciding.TakesValue ks
      → deciding.Reaches g l spot.context spot.start ks false (length u + 1) (u ++ b ∷ [])) → ((size : _) → opening_of b ≡ Sized Form.Pad size → ⊥)
      → Leaves g l (u ++ b ∷ []) s (one_octet (under g l) spot fs p)
  one_stands spot s fs u b p o e is flat rc inner reach nopad =
      let sh = shallow g l spot.start spot.context s fs u o in
      let sp = opened_open g l spot.start spot.context s fs u o inner in
      unless_leaves g l (u ++ b ∷ []) s (deliver (under g l) spot fs (bare p)) (unfit l.item spot.start fs Form.Struct spot.used)
      (λ x i. one_row g l spot.context spot.start fs sp.ks u b sp.match sp.open' (reach sp.ks sp.open' (takes spot.context fs sp.ks sp.match rc)) nopad x
      (ap (λ k. unfit l.item spot.start fs Form.Struct k) (sym (e ∙ length-one u b)) ∙ i)) (λ j.
      let j1 = or_none (stray fs Form.Struct) (or_else (misfits l.item spot.start fs Form.Struct spot.used) (nameless fs Form.Struct)) j in
      let j2 = or_none (misfits l.item spot.start fs Form.Struct spot.used) (nameless fs Form.Struct) j1.1 in
      deliver_stands g l spot s fs u (b ∷ []) (bare p) o (plain_comes spot.context fs (b ∷ []) p is) e (omega arith)
      (misfits_ends l spot.start fs Form.Struct spot.used j2.0) rc j2.1)

  -- on a descriptor
  pub descriptor_stands : (spot : Spot) (s : List Value) (fs : List Frame) (u : List ℕ) (b : ℕ) (d : Opening) → opening_of b ≡ d
      → AwaitsDescriptor g l spot.start spot.context s fs u → spot.used ≡ length (u ++ b ∷ [])
      → Leaves g l (u ++ b ∷ []) s (on_descriptor (under g l) spot fs d)
  descriptor_stands spot s fs u b (Refused reason) i o e =
      let sp = opened_open g l spot.start spot.context s fs u o.opened o.more in
      no_descriptor spot.context spot.start sp.ks u b reason sp.open' (takes spot.context fs sp.ks sp.match o.receives) i
  descriptor_stands spot s [] u b Marker i o e =
      record {
        used = e;
        standing = record {
          before = u;
          came = b ∷ [];
          whole = refl;
          front = inr o.opened;
          top = refl;
          octets = (ap (λ x. x ∷ []) (marker_is b i), refl);
          first = tt;
        };
      }
  descriptor_stands spot s (f ∷ fs) u b Marker i o e =
      let sp = opened_open g l spot.start spot.context s (f ∷ fs) u o.opened o.more in
      marker_row g l spot.context spot.start f fs sp.ks u b sp.match sp.open' (takes spot.context (f ∷ fs) sp.ks sp.match o.receives) i
  descriptor_stands spot s fs u b (Null k) i o e = one_stands spot s fs u b (payloads.Null k) o.opened e (is_null b k i) (depth-Null k) o.receives o.more
      (λ ks x t. a_null u b k x t i) (λ size q. let z : Null k ≡ Sized Form.Pad size = sym i ∙ q in cc)
  descriptor_stands spot s fs u b (Truth k) i o e = one_stands spot s fs u b (payloads.Truth k) o.opened e (is_truth b k i) (depth-Truth k) o.receives o.more
      (λ ks x t. a_truth u b k x t i) (λ size q. let z : Truth k ≡ Sized Form.Pad size = sym i ∙ q in cc)
  descriptor_stands spot s fs u b (Sized form (Known n)) i o e =
      let sp = opened_open g l spot.start spot.context s fs u o.opened o.more in
      let t = takes spot.context fs sp.ks sp.match o.receives in
      sized_stands spot s fs u (b ∷ []) form n o.opened (stray_accepts fs form o.receives) (short b i) e o.receives
      (record { ks = sp.ks; match = sp.match; ends = by_descriptor u b sp.open' t i })
      (short_row g l spot.context spot.start fs sp.ks form n u b sp.match sp.open' t i)
  descriptor_stands spot s fs u b (Sized form Follows) i o e =
      let sp = opened_open g l spot.start spot.context s fs u o.opened o.more in
      let t = takes spot.context fs sp.ks sp.match o.receives in
      unless_leaves g l _ s _ _ (follows_stray g l spot.context spot.start fs sp.ks form u b sp.match sp.open' i) (λ j1. unless_leaves g l _ s _ _
      (λ x q. unending_row g l spot.context spot.start fs sp.ks form u b sp.match sp.open' t i x
      (ap (λ k. unending l.item spot.start fs form k) (sym (e ∙ length-one u b)) ∙ q)) (λ j2.
      unless_leaves g l _ s _ _ (follows_name g l spot.context spot.start fs sp.ks form u b sp.match sp.open' i) (λ j3.
      record {
        used = e;
        standing = number_awaited g l spot.start spot.context s fs (Purpose.Length form) (u ++ b ∷ [])
            (record {
              before = u;
              b = b;
              whole = refl;
              outer = o.opened;
              accepts = stray_accepts fs form o.receives j1;
              admits = record { receives = o.receives; fitting = j1; named = j3 };
              more = o.more;
              head = i;
            })
            (rw e at (unending_going l spot.start fs form spot.used j2));
      })))
