-- What the machine refuses is a row of the format's table.
use Rattle.std.proofs.Common.{◌≡◌, ◌≢◌, ◌⊎◌, inl, inr, ℕ, ◌+◌, ◌<◌, ◌≤◌, ◌||◌, ◌==◌, nat_lt, nat_le, ltb-false, eqb-true, List, [], ◌∷◌, ◌++◌, length, Result, Ok, Err, Option, Some, None, Bool, true, false, cond, refl, ap, sym, ◌∙◌, subst, arith}
use Rattle.std.proofs.lemmas.Bool.{leb-false, eqb-false, cases_lt}
use Rattle.ion_binary.specs.Names.{Catalog, Count, Decides, Depth, EndsHeader, EndsNumber, Follows, Form, Frame, Id, IsContainer, ItemTooLong, Items, Known, LastOctet, Length, Limits, Malformed, Marker, Name, Named, Noted, Number, Open, Purpose, Reason, Scalar, Size, Sized, Slot, TakesValue, a_body, annotations_past, bad_empty_body, header_too_long, hollow, in_wrapper, inner_marker, is_pad, is_wrapper, judge, misfits, nameless, no_annotation, no_annotations, no_count, no_length, no_name, no_value, number_past, of_annotations, of_container, of_struct, of_wrapper, opening_of, or_else, past, past_container, read_offset, resolve, stray, timestamp_of_body, too_deep, unending, unfit, wrapper_unfilled}
use Rattle.ion_binary.specs.Deciding as deciding
use Rattle.ion_binary.specs.Deciding.{Container, Names, Reaches, no_fields, too_long}
use Rattle.ion_binary.specs.machine.EachOctet as machine
use Rattle.ion_binary.specs.machine.Frames as frames
use Rattle.ion_binary.specs.laws.reading.OpenFrames.{InFrames, Match, count_in, id_in, items, length_in, name_in, named, names, noted, nothing_open, purpose_of, same_levels}
use Rattle.ion_binary.specs.laws.reading.OnlyReasons.{some_if, some_then}

negative_empty : (c : List Slot) → judge c Scalar.NegativeInt [] ≡ Err Malformed
unfolding judge
negative_empty c = refl

timestamp_empty : (c : List Slot) → judge c Scalar.Timestamp [] ≡ Err Malformed
unfolding judge timestamp_of_body read_offset
timestamp_empty c = refl

-- the first of three reasons
pub first_of_three : (a b c : Option Reason) (P : Reason → Type 0) → ((y : Reason) → a ≡ Some y → P y) → ((y : Reason) → b ≡ Some y → P y)
    → ((y : Reason) → c ≡ Some y → P y) → (x : Reason) → or_else a (or_else b c) ≡ Some x → P x
first_of_three (Some y) b c P fa fb fc x h = fa x h
first_of_three None (Some y) c P fa fb fc x h = fb x h
first_of_three None None c P fa fb fc x h = fc x h

or_false : (a b : Bool) → (a || b) ≡ false → (a ≡ false) × (b ≡ false)
or_false false b h = (refl, h)
or_false true b h = cc

module _ (g : Catalog) (l : Limits) (c : List Slot) (start : ℕ) where
  -- a header ends, in these frames
  pub record HeaderEnds (fs : List Frame) (form : Form) (n : ℕ) (u : List ℕ) : Type 0 where
    pub ks : List Container
    pub match : Match c fs ks
    pub ends : EndsHeader g l c start ks form n u

  -- a header for no octets where its form must have some has a row
  pub hollow_row : (fs : List Frame) (form : Form) (n : ℕ) (u : List ℕ) → HeaderEnds fs form n u → (x : Reason) → hollow form n ≡ Some x → Decides g l u x
  hollow_row fs (Form.Scalar Scalar.NegativeInt) n u h x e =
      let p = some_then (n == 0) Malformed x e in
      rw (← p.1) (bad_empty_body c start h.ks Scalar.NegativeInt u Malformed (rw (eqb-true n 0 p.0) at h.ends) (negative_empty c))
  hollow_row fs (Form.Scalar Scalar.Timestamp) n u h x e =
      let p = some_then (n == 0) Malformed x e in
      rw (← p.1) (bad_empty_body c start h.ks Scalar.Timestamp u Malformed (rw (eqb-true n 0 p.0) at h.ends) (timestamp_empty c))
  hollow_row fs Form.OrderedStruct n u h x e =
      let p = some_then (n == 0) Malformed x e in
      rw (← p.1) (no_fields c start h.ks u (rw (eqb-true n 0 p.0) at h.ends))
  hollow_row fs Form.Wrapper n u h x e =
      let p = some_then (n == 0) Malformed x e in
      rw (← p.1) (no_count c start h.ks u (rw (eqb-true n 0 p.0) at h.ends))
  hollow_row fs _ n u h x e = absurd cc

  past_row : (k : Container) (ks : List Container) (pad : Bool) (to end : ℕ) (u : List ℕ) (x : Reason) → deciding.container_end k ≡ end
      → Reaches g l c start (k ∷ ks) pad to u → cond (nat_le to end) None (Some Malformed) ≡ Some x → Decides g l u x
  past_row k ks pad to end u x i r e =
      let p = some_if (nat_le to end) Malformed x e in
      let q = leb-false to end p.0 in
      rw (← p.1) (past_container c start k ks pad to u r (omega arith))

  pub misfit_row : (fs : List Frame) (ks : List Container) (form : Form) (to : ℕ) (u : List ℕ) → Match c fs ks → Reaches g l c start ks (is_pad form) to u
      → (x : Reason) → misfits l.item start fs form to ≡ Some x → Decides g l u x
  misfit_row _ _ form to u nothing_open r x e =
      let p = some_if (is_pad form || nat_le to (start + l.item)) ItemTooLong x e in
      let q = or_false (is_pad form) (nat_le to (start + l.item)) p.0 in
      rw (← p.1) (too_long c start to u (rw q.0 at r) (leb-false to (start + l.item) q.1))
  misfit_row _ _ form to u (noted end ss fs ks m) r x e = by (cases_lt end to)
    where
      p : (to == end ≡ false) × (Malformed ≡ x)
      p = some_if (to == end) Malformed x e

      by : (end < to) ⊎ (to ≤ end) → Decides g l u x
      by (inl h) = rw (← p.1) (past_container c start (Noted end) ks (is_pad form) to u r h)
      by (inr h) = let q = eqb-false to end p.0 in rw (← p.1) (wrapper_unfilled c start end ks (is_pad form) to u r (omega (arith, q, h)))
  misfit_row _ _ form to u _ r x e = past_row _ _ (is_pad form) to _ u x refl r e

  -- the id of a name
  name_row : (fs : List Frame) (ks : List Container) (form : Form) (u : List ℕ) (b : ℕ) → Match c fs ks → Open g l c start ks u
      → ((size : Size) → is_pad form ≡ false → opening_of b ≢ Sized Form.Pad size) → (x : Reason) → nameless fs form ≡ Some x → Decides g l (u ++ b ∷ []) x
  name_row _ _ form u b (named end id ms fs ks m) o n x e = go (resolve c id) refl
    where
      go : (r : Result (Option (List ℕ)) Reason) → resolve c id ≡ r → Decides g l (u ++ b ∷ []) x
      go (Ok s) i = let q : None ≡ Some x = rw i at e in absurd cc
      go (Err y) i =
          let p = some_if (is_pad form) y x (rw i at e) in
          no_name c start end id ks u b x o (i ∙ ap (λ z. Err z) p.1) (λ size. n size p.0)
  name_row _ _ form u b _ o n x e = absurd cc

  -- a pad or a wrapper in a wrapper
  stray_row : (fs : List Frame) (ks : List Container) (form : Form) (size : Size) (u : List ℕ) (b : ℕ) → Match c fs ks → Open g l c start ks u
      → opening_of b ≡ Sized form size → (x : Reason) → stray fs form ≡ Some x → Decides g l (u ++ b ∷ []) x
  stray_row _ _ form size u b (noted end ss fs ks m) o i x e =
      let p = some_then (is_pad form || is_wrapper form) Malformed x e in
      rw (← p.1) (in_wrapper c start end ks u b form size o i p.0)
  stray_row _ _ form size u b _ o i x e = absurd cc

  sized_pad : (form : Form) (size z : Size) → is_pad form ≡ false → Sized form size ≡ Sized Form.Pad z → ⊥
  sized_pad form size z h e = let k : form ≡ Form.Pad = cc in let q : true ≡ false = sym (ap is_pad k) ∙ h in cc

  -- at a descriptor whose length doesn't follow
  pub short_row : (fs : List Frame) (ks : List Container) (form : Form) (n : ℕ) (u : List ℕ) (b : ℕ) → Match c fs ks → Open g l c start ks u → TakesValue ks
      → opening_of b ≡ Sized form (Known n) → (x : Reason) → unfit l.item start fs form (length (u ++ b ∷ []) + n) ≡ Some x → Decides g l (u ++ b ∷ []) x
  short_row fs ks form n u b m o t i = first_of_three _ _ _ _ (stray_row fs ks form _ u b m o i)
      (misfit_row fs ks form _ _ m (a_body (u ++ b ∷ []) form n (deciding.by_descriptor u b o t i)))
      (name_row fs ks form u b m o (λ size p e. sized_pad form _ size p (sym i ∙ e)))

  -- at the end of a length: what is wrong is where it reaches
  pub long_row : (fs : List Frame) (form : Form) (n : ℕ) (u : List ℕ) → HeaderEnds fs form n u → stray fs form ≡ None → nameless fs form ≡ None → (x : Reason)
      → unfit l.item start fs form (length u + n) ≡ Some x → Decides g l u x
  long_row fs form n u h a d = first_of_three _ _ _ _ (λ y e. absurd (let q : None ≡ Some y = sym a ∙ e in cc))
      (misfit_row fs h.ks form _ u h.match (a_body u form n h.ends))
      (λ y e. absurd (let q : None ≡ Some y = sym d ∙ e in cc))

  no_stray : (fs : List Frame) (x : Reason) → stray fs Form.Struct ≡ Some x → ⊥
  no_stray (frames.Annotated end ss ∷ fs) x e = cc
  no_stray _ x e = cc

  -- at a value of one octet
  pub one_row : (fs : List Frame) (ks : List Container) (u : List ℕ) (b : ℕ) → Match c fs ks → Open g l c start ks u
      → Reaches g l c start ks false (length u + 1) (u ++ b ∷ []) → ((size : Size) → opening_of b ≢ Sized Form.Pad size)
      → (x : Reason) → unfit l.item start fs Form.Struct (length u + 1) ≡ Some x → Decides g l (u ++ b ∷ []) x
  one_row fs ks u b m o r n = first_of_three _ _ _ _ (λ y e. absurd (no_stray fs y e)) (misfit_row fs ks Form.Struct _ _ m r)
      (name_row fs ks Form.Struct u b m o (λ size p. n size))

  last_row : (k : Container) (ks : List Container) (u : List ℕ) (b : ℕ) (form : Form) (end : ℕ) → deciding.container_end k ≡ end → Open g l c start (k ∷ ks) u
      → TakesValue (k ∷ ks) → opening_of b ≡ Sized form Follows → (x : Reason) → cond (nat_lt (length u + 1) end) None (Some Malformed) ≡ Some x
      → Decides g l (u ++ b ∷ []) x
  last_row k ks u b form end q o t i x e =
      let p = some_if (nat_lt (length u + 1) end) Malformed x e in
      let z = ltb-false (length u + 1) end p.0 in
      rw (← p.1) (no_length c start k ks u b form o t i (omega arith))

  -- at a descriptor whose length follows
  pub unending_row : (fs : List Frame) (ks : List Container) (form : Form) (u : List ℕ) (b : ℕ) → Match c fs ks → Open g l c start ks u → TakesValue ks
      → opening_of b ≡ Sized form Follows → (x : Reason) → unending l.item start fs form (length u + 1) ≡ Some x → Decides g l (u ++ b ∷ []) x
  unending_row _ _ form u b nothing_open o t i x e =
      let p = some_if (is_pad form || nat_le (length u + 1) (start + l.item)) ItemTooLong x e in
      let q = or_false (is_pad form) (nat_le (length u + 1) (start + l.item)) p.0 in
      let z = leb-false (length u + 1) (start + l.item) q.1 in
      let d = l.long in
      let w = o.2 in
      absurd (omega (arith, z, d.0, w))
  unending_row _ _ form u b (names end ms fs ks m) o t i x e = absurd t
  unending_row _ _ form u b (items end y vs fs ks m) o t i x e = last_row (Items end) ks u b form end refl o t i x e
  unending_row _ _ form u b (named end id ms fs ks m) o t i x e = last_row (Named end id) ks u b form end refl o t i x e
  unending_row _ _ form u b (noted end ss fs ks m) o t i x e = last_row (Noted end) ks u b form end refl o t i x e

  -- a pad or a wrapper in a wrapper, whose length would follow, has a row
  pub follows_stray : (fs : List Frame) (ks : List Container) (form : Form) (u : List ℕ) (b : ℕ) → Match c fs ks → Open g l c start ks u
      → opening_of b ≡ Sized form Follows → (x : Reason) → stray fs form ≡ Some x → Decides g l (u ++ b ∷ []) x
  follows_stray fs ks form u b m o i = stray_row fs ks form Follows u b m o i

  -- a field's name without a symbol, before a value whose length would follow, has a row
  pub follows_name : (fs : List Frame) (ks : List Container) (form : Form) (u : List ℕ) (b : ℕ) → Match c fs ks → Open g l c start ks u
      → opening_of b ≡ Sized form Follows → (x : Reason) → nameless fs form ≡ Some x → Decides g l (u ++ b ∷ []) x
  follows_name fs ks form u b m o i = name_row fs ks form u b m o (λ size p e. sized_pad form Follows size p (sym i ∙ e))

  -- a number that may not go on
  going_row : (last : ℕ) (ks : List Container) (q : Number) (a : ℕ) (u : List ℕ) (b : ℕ) → deciding.InNumber g l c start ks q a u → b < 128
      → LastOctet g l c start ks q last → (x : Reason) → cond (nat_lt (length u + 1) last) None (Some Malformed) ≡ Some x → Decides g l (u ++ b ∷ []) x
  going_row last ks q a u b o h r x e =
      let p = some_if (nat_lt (length u + 1) last) Malformed x e in
      rw (← p.1) (number_past c start last ks q a u b o h r (ltb-false (length u + 1) last p.0))

  -- a VarUInt that may not go on has a row
  pub number_row : (ks : List Container) (q : Number) (fs : List Frame) (a : ℕ) (u : List ℕ) (b : ℕ) → InFrames c ks q fs
      → deciding.InNumber g l c start ks q a u → b < 128 → (x : Reason) → past l.item start fs (purpose_of q) (length u + 1) ≡ Some x
      → Decides g l (u ++ b ∷ []) x
  number_row _ _ _ a u b (length_in _ form _ nothing_open) o h x e =
      let p = some_if (is_pad form || nat_le (length u + 1) (start + l.item)) ItemTooLong x e in
      let q = or_false (is_pad form) (nat_le (length u + 1) (start + l.item)) p.0 in
      rw (← p.1) (header_too_long c start form a u b o q.0 h (leb-false (length u + 1) (start + l.item) q.1))
  number_row _ _ _ a u b (length_in _ form _ _) o h x e = going_row _ _ _ a u b o h (of_container _ _ form) x e
  number_row _ _ _ a u b (name_in _ _ _ (names end ms fs ks m)) o h x e = going_row end (Names end ∷ ks) Name a u b o h (of_struct end ks) x e
  number_row _ _ _ a u b (count_in ks end fs m) o h x e = going_row end ks (Count end) a u b o h (of_wrapper ks end) x e
  number_row _ _ _ a u b (id_in ks end stop ss fs m) o h x e = going_row stop ks (Id stop) a u b o h (of_annotations ks stop) x e

  -- what a number that ended is of
  pub header_here : (ks : List Container) (q : Number) (fs : List Frame) (form : Form) (n : ℕ) (u : List ℕ) → InFrames c ks q fs
      → purpose_of q ≡ Purpose.Length form → EndsNumber g l c start ks q n u → HeaderEnds fs form n u
  header_here _ _ _ form n u (length_in ks f fs m) e o = record {
    ks = ks;
    match = m;
    ends = deciding.by_length u (subst (λ x. EndsNumber g l c start ks (Length x) n u) (let k : f ≡ form = cc in k) o);
  }
  header_here _ _ _ form n u _ e o = absurd cc

  -- the name of a field that ends with its struct has a row
  pub value_row : (ks : List Container) (q : Number) (all fs : List Frame) (end n : ℕ) (ms : List _) (u : List ℕ) → InFrames c ks q all
      → all ≡ frames.Fields end ms ∷ fs → purpose_of q ≡ Purpose.FieldName → EndsNumber g l c start ks q n u → end ≤ length u → Decides g l u Malformed
  value_row _ _ _ fs end n ms u (name_in _ _ _ (names end' ms' hs ks m)) i e o h = let k : end' ≡ end = cc in no_value c start end' n ks u o (omega arith)
  value_row _ _ _ fs end n ms u _ i e o h = absurd cc

  -- annotations that leave no room for their value have a row
  pub count_row : (ks : List Container) (q : Number) (all fs : List Frame) (end n : ℕ) (ss : List (Option (List ℕ))) (u : List ℕ) → InFrames c ks q all
      → all ≡ frames.Annotated end ss ∷ fs → purpose_of q ≡ Purpose.AnnotationsLength → EndsNumber g l c start ks q n u → end ≤ length u + n
      → Decides g l u Malformed
  count_row _ _ _ fs end n ss u (count_in ks end' hs m) i e o h = let k : end' ≡ end = cc in annotations_past c start end' n ks u o (omega arith)
  count_row _ _ _ fs end n ss u _ i e o h = absurd cc

  -- a wrapper with no annotation octets has a row
  pub none_row : (ks : List Container) (q : Number) (fs : List Frame) (n : ℕ) (u : List ℕ) → InFrames c ks q fs → purpose_of q ≡ Purpose.AnnotationsLength
      → EndsNumber g l c start ks q n u → n ≡ 0 → Decides g l u Malformed
  none_row _ _ _ n u (count_in ks end' hs m) e o h = no_annotations c start end' ks u (rw h at o)
  none_row _ _ _ n u _ e o h = absurd cc

  -- an annotation whose id has no symbol has a row
  pub annotation_row : (ks : List Container) (q : Number) (fs : List Frame) (stop n : ℕ) (u : List ℕ) (x : Reason) → InFrames c ks q fs
      → purpose_of q ≡ Purpose.Annotation stop → EndsNumber g l c start ks q n u → resolve c n ≡ Err x → Decides g l u x
  annotation_row _ _ _ stop n u x (id_in ks end' stop' ss' hs m) e o h = no_annotation c start stop' n ks u x o h
  annotation_row _ _ _ stop n u x _ e o h = absurd cc

  -- a version marker in a container has a row
  pub marker_row : (f : Frame) (fs : List Frame) (ks : List Container) (u : List ℕ) (b : ℕ) → Match c (f ∷ fs) ks → Open g l c start ks u → TakesValue ks
      → opening_of b ≡ Marker → Decides g l (u ++ b ∷ []) Malformed
  marker_row _ _ _ u b (names end ms fs ks m) o t i = absurd t
  marker_row _ _ _ u b (items end y vs fs ks m) o t i = inner_marker c start (Items end) ks u b o t i
  marker_row _ _ _ u b (named end id ms fs ks m) o t i = inner_marker c start (Named end id) ks u b o t i
  marker_row _ _ _ u b (noted end ss fs ks m) o t i = inner_marker c start (Noted end) ks u b o t i

  -- a container deeper than the limit has a row
  pub deep_row : (fs : List Frame) (form : Form) (n : ℕ) (u : List ℕ) → HeaderEnds fs form n u → IsContainer form → l.depth ≤ machine.levels fs
      → Decides g l u Depth
  deep_row fs form n u h i d = let s = same_levels c fs h.ks h.match in too_deep c start h.ks form n u h.ends i (omega arith)
