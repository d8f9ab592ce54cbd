-- What octets that were not refused are: whole pieces, and then an open rest.
use Rattle.std.proofs.Common.{◌≡◌, ℕ, ◌+◌, ◌<◌, ◌≤◌, List, [], ◌∷◌, ◌++◌, length, refl, ap, sym, ◌∙◌, inl, inr, arith, length-append, append_assoc, append-nil, Bool, false, ◌⊎◌}
use Rattle.ion_binary.specs.Names.{Catalog, First, Form, Fourth, Frame, InBody, InMarker, InNumber, InPad, Limits, Mark, OpenRest, Phase, Purpose, Ready, Scalar, Second, Slot, Third, Value, Whole, document, end_of, is_pad, no_piece, of_item, of_marker, of_pad, of_pad_length}
use Rattle.ion_binary.specs.machine.Frames as frames
use Rattle.ion_binary.specs.laws.reading.Stands.{BodyMayEnd, BodyStands, Box, Front, MarkCame, MarkerStands, NumberBegins, NumberGoing, NumberStands, Opened, Standing}
use Rattle.ion_binary.specs.laws.reading.sound.Bounds.{struct_sized}
use Rattle.ion_binary.specs.laws.reading.sound.Containers.{length_3}

pad_or : (form : Form) → (form ≡ Form.Pad) ⊎ (is_pad form ≡ false)
pad_or Form.Pad = inl refl
pad_or _ = inr refl

few_came : (m : Mark) (good : Bool) (w : List ℕ) → MarkCame m good w → length w ≤ 3
few_came First good w h = omega (arith, ap length h.0)
few_came Second good w h = omega (arith, ap length h.0)
few_came Third good w h = omega (arith, ap length h.1)
few_came Fourth good w h = omega (arith, ap length h.2)

module _ (g : Catalog) (l : Limits) where
  -- whole pieces up to `start`, and the rest
  pub record Cut (start : ℕ) (s : List Value) (u : List ℕ) : Type 0 where
    pub front : List ℕ
    pub rest : List ℕ
    pub parts : u ≡ front ++ rest
    pub whole : Whole g l front s
    pub at : length front ≡ start

  -- the same, where the rest may stand open
  pub record OpenCut (start : ℕ) (s : List Value) (u : List ℕ) : Type 0 where
    pub cut : Cut start s u
    pub open_rest : OpenRest l cut.rest

  -- octets are as many as those up to `start` and those of the rest
  pub rest_long : (start : ℕ) (s : List Value) (u : List ℕ) (c : Cut start s u) → length u ≡ start + length c.rest
  rest_long start s u c = omega (arith, ap length c.parts, length-append c.front c.rest, c.at)

  module _ (start : ℕ) (c : List Slot) (s : List Value) where
    cut_on : (before w u : List ℕ) → u ≡ before ++ w → Cut start s before → Cut start s u
    cut_on before w u e k =
        rw e (record { front = k.front; rest = k.rest ++ w; parts = ap (λ x. x ++ w) k.parts ∙ append_assoc k.front k.rest w; whole = k.whole; at = k.at })

    box_cut : (Outer : List ℕ → Type 0) (fs : List Frame) (form : Form) (end : ℕ) (u : List ℕ) → (o : Box l start Outer fs form end u) → Cut start s o.before
        → Cut start s u
    box_cut Outer fs form end u o k = cut_on o.before o.header u o.whole k

    opened_cut : (fs : List Frame) (u : List ℕ) → Opened g l start c s fs u → Cut start s u
    opened_cut [] u o = record { front = u; rest = []; parts = sym (append-nil u); whole = document u s c o.0; at = o.1 }
    opened_cut (frames.Items end x vs ∷ fs) u o =
        cut_on o.front o.body u o.whole (box_cut _ fs (Form.ListOrSexp x) end o.front o.box (opened_cut fs o.box.before o.box.outer))
    opened_cut (frames.Fields end ms ∷ fs) u o =
        cut_on o.front o.body u o.whole (box_cut _ fs o.form end o.front o.box (opened_cut fs o.box.before o.box.outer))
    opened_cut (frames.Named end ms name ∷ fs) u o =
        let i = o.inside in
        cut_on o.front o.id u o.whole (cut_on i.front i.body o.front i.whole (box_cut _ fs i.form end i.front i.box (opened_cut fs i.box.before i.box.outer)))
    opened_cut (frames.Annotated end ss ∷ fs) u o =
        cut_on o.front _ u o.whole (box_cut _ fs Form.Wrapper end o.front o.box (opened_cut fs o.box.before o.box.outer))

    front_cut : (u : List ℕ) → Front g l start c s u → Cut start s u
    front_cut u (inl h) = record { front = []; rest = u; parts = refl; whole = rw h.1 no_piece; at = sym h.2 }
    front_cut u (inr h) = opened_cut [] u h

    front_long : (u : List ℕ) → Front g l start c s u → length u ≡ start
    front_long u (inl h) = ap length h.0 ∙ sym h.2
    front_long u (inr h) = h.1

    -- what ends where a body may end in these frames ends within the item
    ends_within : (f : Frame) (fs : List Frame) (form : Form) (to : ℕ) → end_of f ≤ start + l.item → BodyMayEnd l start (f ∷ fs) form to → to ≤ start + l.item
    ends_within (frames.Items end x vs) fs form to h r = omega arith
    ends_within _ fs form to h r = omega arith

    -- an open container ends within the item, if what has a header beside it does
    end_by : (f : Frame) (fs : List Frame) (u : List ℕ)
        → ((form : Form) (end : ℕ) (w : List ℕ) → is_pad form ≡ false → Box l start (Opened g l start c s fs) fs form end w → end ≤ start + l.item)
        → Opened g l start c s (f ∷ fs) u → end_of f ≤ start + l.item
    end_by (frames.Items end x vs) fs u within o = within (Form.ListOrSexp x) end o.front refl o.box
    end_by (frames.Fields end ms) fs u within o = within o.form end o.front (struct_sized o.form o.box.n o.kind) o.box
    end_by (frames.Named end ms name) fs u within o = let i = o.inside in within i.form end i.front (struct_sized i.form i.box.n i.kind) i.box
    end_by (frames.Annotated end ss) fs u within o = within Form.Wrapper end o.front refl o.box

    box_within : (fs : List Frame) (form : Form) (end : ℕ) (u : List ℕ) → is_pad form ≡ false → Box l start (Opened g l start c s fs) fs form end u
        → end ≤ start + l.item
    box_within [] form end u p o = o.room p
    box_within (k ∷ fs) form end u p o = ends_within k fs form end (end_by k fs o.before (box_within fs) o.outer) o.room

    -- an open container ends within the item
    end_within : (f : Frame) (fs : List Frame) (u : List ℕ) → Opened g l start c s (f ∷ fs) u → end_of f ≤ start + l.item
    end_within f fs u o = end_by f fs u (box_within fs) o

    -- the octets so far don't go beyond the innermost container
    within_end : (f : Frame) (fs : List Frame) (u : List ℕ) → Opened g l start c s (f ∷ fs) u → length u ≤ end_of f
    within_end (frames.Named end ms name) fs u o = let h = o.within in omega arith
    within_end (frames.Annotated end ss) fs u o = let h = o.within in omega arith
    within_end _ fs u o = o.within

    item_open : (u : List ℕ) → Cut start s u → length u ≤ start + l.item → OpenCut start s u
    item_open u k h = record { cut = k; open_rest = of_item k.rest (omega (arith, rest_long start s u k, h)) }

    few_open : (u : List ℕ) → Cut start s u → length u ≤ start + 3 → OpenCut start s u
    few_open u k h = record { cut = k; open_rest = of_marker k.rest (omega (arith, rest_long start s u k, h)) }

    before_open : (fs : List Frame) (u : List ℕ) → Opened g l start c s fs u → OpenCut start s u
    before_open [] u o = few_open u (opened_cut [] u o) (omega (arith, o.1))
    before_open (f ∷ fs) u o = item_open u (opened_cut (f ∷ fs) u o) (omega (arith, within_end f fs u o, end_within f fs u o))

    marker_open : (fs : List Frame) (m : Mark) (good : Bool) (u : List ℕ) → MarkerStands g l start c s fs m good u → OpenCut start s u
    marker_open fs m good u o =
        few_open u (cut_on o.before o.came u o.whole (front_cut o.before o.front))
        (omega (arith, ap length o.whole, length-append o.before o.came, front_long o.before o.front, few_came m good o.came o.octets))

    -- the octets before a VarUInt
    begins_cut : (fs : List Frame) (p : Purpose) (u : List ℕ) → NumberBegins g l start c s fs p u → Cut start s u
    begins_cut fs (Purpose.Length form) u o = cut_on o.before (o.b ∷ []) u o.whole (opened_cut fs o.before o.outer)
    begins_cut (frames.Fields end ms ∷ fs) Purpose.FieldName u o = opened_cut (frames.Fields end ms ∷ fs) u o
    begins_cut (frames.Annotated end ss ∷ fs) Purpose.AnnotationsLength u o =
        box_cut _ fs Form.Wrapper end u o.box (opened_cut fs o.box.before o.box.outer)
    begins_cut (frames.Annotated end ss ∷ fs) (Purpose.Annotation stop) u o =
        cut_on o.front _ u o.whole (box_cut _ fs Form.Wrapper end o.front o.box (opened_cut fs o.box.before o.box.outer))
    begins_cut _ _ u o = absurd o

    -- in a container it stays within the item
    number_within : (f : Frame) (fs : List Frame) (p : Purpose) (front : List ℕ) (used : ℕ) → NumberBegins g l start c s (f ∷ fs) p front
        → NumberGoing l start (f ∷ fs) p used → used ≤ start + l.item
    number_within f fs (Purpose.Length form) front used o h = let k : used < end_of f = h in omega (arith, k, end_within f fs o.before o.outer)
    number_within (frames.Fields end ms) fs Purpose.FieldName front used o h =
        let k : used < end = h in omega (arith, k, end_within (frames.Fields end ms) fs front o)
    number_within (frames.Annotated end ss) fs Purpose.AnnotationsLength front used o h =
        let k : used < end = h in omega (arith, k, box_within fs Form.Wrapper end front refl o.box)
    number_within (frames.Annotated end ss) fs (Purpose.Annotation stop) front used o h =
        let k : used < stop = h in omega (arith, k, o.room, box_within fs Form.Wrapper end o.front refl o.box)
    number_within _ fs _ front used o h = absurd o

    number_open : (fs : List Frame) (p : Purpose) (a : ℕ) (u : List ℕ) → NumberStands g l start c s fs p a u → OpenCut start s u
    number_open (f ∷ fs) p a u o =
        item_open u (cut_on o.front o.digits u o.whole (begins_cut (f ∷ fs) p o.front o.begins)) (number_within f fs p o.front (length u) o.begins o.going)
    number_open [] (Purpose.Length form) a u o = go (pad_or form)
      where
        go : (form ≡ Form.Pad) ⊎ (is_pad form ≡ false) → OpenCut start s u
        go (inl p) =
            let i = o.begins in
            record {
              cut = record {
                front = i.before;
                rest = i.b ∷ o.digits;
                parts = rw (i.whole, append_assoc i.before) at o.whole;
                whole = document i.before s c i.outer.0;
                at = i.outer.1;
              };
              open_rest = of_pad_length i.b o.digits (rw p at i.head) o.small (rw o.value at o.bound);
            }
        go (inr p) = item_open u (cut_on o.front o.digits u o.whole (begins_cut [] (Purpose.Length form) o.front o.begins)) (o.going p)
    number_open [] _ a u o = absurd o.begins

    body_long : (fs : List Frame) (form : Form) (n : ℕ) (came u : List ℕ) → (o : BodyStands g l start c s fs form n came u) → length u < o.end
    body_long fs form n came u o = omega (arith, ap length o.whole, length_3 o.before o.header came, o.sizes, o.ends)

    body_cut : (fs : List Frame) (form : Form) (n : ℕ) (came u : List ℕ) → BodyStands g l start c s fs form n came u → Cut start s u
    body_cut fs form n came u o = cut_on o.before (o.header ++ came) u o.whole (opened_cut fs o.before o.outer)

    -- a body ends within the item, unless it is a pad of the top level
    body_ends : (fs : List Frame) (form : Form) (n : ℕ) (came u : List ℕ) → is_pad form ≡ false → (o : BodyStands g l start c s fs form n came u)
        → o.end ≤ start + l.item
    body_ends [] form n came u p o = o.room p
    body_ends (f ∷ fs) form n came u p o = ends_within f fs form o.end (end_within f fs o.before o.outer) o.room

    body_open : (fs : List Frame) (form : Form) (n : ℕ) (came u : List ℕ) → BodyStands g l start c s fs form n came u → OpenCut start s u
    body_open (f ∷ fs) form n came u o = item_open u (body_cut (f ∷ fs) form n came u o)
        (omega (arith, body_long (f ∷ fs) form n came u o, ends_within f fs form o.end (end_within f fs o.before o.outer) o.room))
    body_open [] form n came u o = go (pad_or form)
      where
        go : (form ≡ Form.Pad) ⊎ (is_pad form ≡ false) → OpenCut start s u
        go (inl p) = record {
          cut = record { front = o.before; rest = o.header ++ came; parts = o.whole; whole = document o.before s c o.outer.0; at = o.outer.1 };
          open_rest = of_pad o.header came o.size (rw p at o.head) (omega (arith, o.sizes));
        }
        go (inr p) = item_open u (body_cut [] form n came u o) (omega (arith, body_long [] form n came u o, body_ends [] form n came u p o))

    -- where the machine stands, the octets are whole pieces and an open rest
    pub standing_open : (fs : List Frame) (body : List ℕ) (phase : Phase) (u : List ℕ) → Standing g l start c s fs body phase u → OpenCut start s u
    standing_open fs body (InMarker m good) u o = marker_open fs m good u o
    standing_open fs body Ready u o = before_open fs u o.opened
    standing_open fs body (InNumber p a) u o = number_open fs p a u o
    standing_open fs body (InBody t n) u o = body_open fs (Form.Scalar t) n body u o
    standing_open fs body (InPad n) u o = body_open fs Form.Pad n o.0 u o.1

    -- the octets so far of a scalar's body are no more than an item may have
    pub body_within : (fs : List Frame) (body : List ℕ) (t : Scalar) (n : ℕ) (u : List ℕ) → BodyStands g l start c s fs (Form.Scalar t) n body u
        → length body ≤ l.item
    body_within fs body t n u o =
        omega (arith, o.sizes, o.ends, body_ends fs (Form.Scalar t) n body u refl o, rest_long start s o.before (opened_cut fs o.before o.outer))
