-- A value or a pad that ends, and each container that ends with it, stands for its octets.
use Rattle.std.proofs.Common.{◌≡◌, ℕ, ◌+◌, ◌≤◌, List, [], ◌∷◌, ◌++◌, length, Result, Ok, Err, Some, None, refl, ap, sym, ◌∙◌, arith, length-append, true, append_assoc, eqb-true, ◌==◌}
use Rattle.std.proofs.lemmas.Bool.{cond_both, eqb-false}
use Rattle.ion_binary.specs.Names.{Binary, Catalog, Field, Fields, Form, Frame, Header, IsPad, Limits, ListOrSexp, Payload, Pieces, Plain, Reason, Slot, Spot, Value, annotated, bad_table, bare, deliver, depth, field_of, holds, is_listing, is_ordered, is_struct, is_table, levels, listed, nameless, next, one_field, one_more, padded, padded_field, proceed, skips, turned, turns, unannotated, under, wrapped, Purpose}
use Rattle.ion_model.specs.declared.value.Payload.TheVariants as payloads
use Rattle.ion_model.specs.laws.Measures.{deepest-more, depth-out}
use Rattle.ion_binary.specs.machine.Frames as frames
use Rattle.ion_binary.specs.laws.reading.Complete.{depth-fields, depth-listed, field_deepest-more}
use Rattle.ion_binary.specs.laws.reading.Stands.{BodyMayEnd, InFields, IsBare, IsStructOf, Leaves, Opened, Receives}
use Rattle.ion_binary.specs.laws.reading.sound.Bounds.{ends_back, named_struct, number_awaited, struct_sized}

-- a value that may come in these frames: in a wrapper one without annotations
abbrev Comes : List Slot → List Frame → List ℕ → Value → Type 0
Comes c (frames.Annotated end ss ∷ fs) w v = Plain c w v.payload
Comes c _ w v = Binary c w v

-- a value without annotations may come in the innermost container
pub plain_comes : (c : List Slot) (fs : List Frame) (w : List ℕ) (p : Payload) → Plain c w p → Comes c fs w (bare p)
plain_comes c (frames.Annotated end ss ∷ fs) w p h = h
plain_comes c _ w p h = unannotated w p h

binary_comes : (c : List Slot) (fs : List Frame) (w : List ℕ) (v : Value) → IsBare fs → Binary c w v → Comes c fs w v
binary_comes c (frames.Annotated end ss ∷ fs) w v i h = absurd i
binary_comes c _ w v i h = h

-- a whole struct
struct_is : (c : List Slot) (form : Form) (n : ℕ) (h body : List ℕ) (ms : List Field) → IsStructOf form n → Header form n h → n ≡ length body → Fields c body ms
    → Plain c (h ++ body) (payloads.Fields ms)
struct_is c Form.Struct n h body ms i d e b = is_struct h body ms (rw e at d) b
struct_is c Form.OrderedStruct n h body ms i d e b = is_ordered h body ms (rw e at d) (omega arith) b
struct_is c _ n h body ms i d e b = absurd i

-- three pieces, bracketed from the right
pub regroup : (a b c d : List ℕ) → a ++ (b ++ c) ++ d ≡ a ++ (b ++ (c ++ d))
regroup a b c d = simp append_assoc

-- three parts have as many octets as each has alone, together
pub length_3 : (a b c : List ℕ) → length (a ++ (b ++ c)) ≡ length a + length b + length c
length_3 a b c = omega (arith, length-append a (b ++ c), length-append b c)

module _ (g : Catalog) (l : Limits) where
  table_stands : (spot : Spot) (s : List Value) (u w : List ℕ) (v : Value) → Pieces g l u s spot.context → Binary spot.context w v → is_table v ≡ true
      → depth v ≤ l.depth → length w ≤ l.item → spot.used ≡ length (u ++ w)
      → Leaves g l (u ++ w) s (turned spot.used (next spot.context v g))
  table_stands spot s u w v o b t d i e = go (next spot.context v g) refl
    where
      go : (r : Result (List Slot) Reason) → next spot.context v g ≡ r → Leaves g l (u ++ w) s (turned spot.used r)
      go (Ok f) h = record { used = e; standing = record { opened = (turns u w s spot.context f v o b t h d i, sym e); receives = tt; more = tt } }
      go (Err x) h = bad_table u w s spot.context v x o b t d i h

  -- the adding of a value, in these frames
  abbrev Adds : Spot → List Value → List Frame → Type 0
  Adds spot s fs = (u w : List ℕ) (v : Value) → Opened g l spot.start spot.context s fs u → Comes spot.context fs w v → spot.used ≡ length (u ++ w)
      → depth v + levels fs ≤ l.depth → BodyMayEnd l spot.start fs Form.Struct spot.used → Receives fs → nameless fs Form.Struct ≡ None
      → Leaves g l (u ++ w) s (deliver (under g l) spot fs v)

  -- a list or s-expression goes on, or ends here
  pub items_stand : (spot : Spot) (s : List Value) (fs : List Frame) (u : List ℕ) (end : ℕ) (x : ListOrSexp) (vs : List Value) → Adds spot s fs
      → Opened g l spot.start spot.context s (frames.Items end x vs ∷ fs) u → spot.used ≡ length u
      → Leaves g l u s (proceed (under g l) spot (frames.Items end x vs ∷ fs))
  items_stand spot s fs u end x vs k o e =
      let k1 = ap length o.whole in
      let k2 = length-append o.front o.body in
      let ends = o.box.ends in
      let deep = o.deep in
      let dv = depth-listed x vs in
      cond_both (spot.used == end) _ _ (Leaves g l u s)
      (λ h.
      let here : spot.used ≡ end = eqb-true spot.used end h in
      let full : o.box.n ≡ length o.body = omega arith in
      let outside = rw (o.box.whole, append_assoc o.box.before) at o.whole in
      rw outside (k o.box.before (o.box.header ++ o.body) (bare (listed x vs)) o.box.outer
      (plain_comes spot.context fs _ _ (is_listing o.box.header o.body x vs (rw full at o.box.head) o.items))
      (e ∙ ap length outside) (omega arith) (ends_back l spot.start fs (Form.ListOrSexp x) spot.used refl (rw here o.box.room)) o.box.admits.receives
      (named_struct fs (Form.ListOrSexp x) refl o.box.admits.named)))
      (λ h. let apart = eqb-false spot.used end h in let in_it = o.within in
      record { used = e; standing = record { opened = o; receives = tt; more = omega arith } })

  -- a struct goes on, or ends here
  pub fields_stand : (spot : Spot) (s : List Value) (fs : List Frame) (u : List ℕ) (end : ℕ) (ms : List Field) → Adds spot s fs
      → InFields l spot.start spot.context (Opened g l spot.start spot.context s fs) fs end ms u → spot.used ≡ length u
      → Leaves g l u s (proceed (under g l) spot (frames.Fields end ms ∷ fs))
  fields_stand spot s fs u end ms k o e =
      let k1 = ap length o.whole in
      let k2 = length-append o.front o.body in
      let ends = o.box.ends in
      let deep = o.deep in
      let in_it = o.within in
      let dv = depth-fields ms in
      cond_both (spot.used == end) _ _ (Leaves g l u s)
      (λ h.
      let here : spot.used ≡ end = eqb-true spot.used end h in
      let full : o.box.n ≡ length o.body = omega arith in
      let outside = rw (o.box.whole, append_assoc o.box.before) at o.whole in
      rw outside (k o.box.before (o.box.header ++ o.body) (bare (payloads.Fields ms)) o.box.outer
      (plain_comes spot.context fs _ _ (struct_is spot.context o.form o.box.n o.box.header o.body ms o.kind o.box.head full o.items))
      (e ∙ ap length outside) (omega arith)
      (ends_back l spot.start fs o.form spot.used (struct_sized o.form o.box.n o.kind) (rw here o.box.room)) o.box.admits.receives
      (named_struct fs o.form (struct_sized o.form o.box.n o.kind) o.box.admits.named)))
      (λ h. let apart = eqb-false spot.used end h in record {
        used = e;
        standing = number_awaited g l spot.start spot.context s (frames.Fields end ms ∷ fs) Purpose.FieldName u o (omega arith);
      })

  -- a value ends here
  pub deliver_stands : (spot : Spot) (s : List Value) (fs : List Frame) → Adds spot s fs
  deliver_stands spot s [] u w v o b e d r rc nm =
      let k = length-append u w in
      let i = o.1 in
      let room = r refl in
      cond_both (is_table v) _ _ (Leaves g l (u ++ w) s)
      (λ t. table_stands spot s u w v o.0 b t (omega arith) (omega arith) e)
      (λ t. record {
        used = e;
        standing = record { opened = (holds u w s spot.context v o.0 b t (omega arith) (omega arith), sym e); receives = tt; more = tt };
      })
  deliver_stands spot s (frames.Fields end ms ∷ fs) u w v o b e d r rc nm = absurd rc
  deliver_stands spot s (frames.Annotated end ss ∷ fs) u w v o b e d r rc nm =
      let whole : u ++ w ≡ o.front ++ (o.count ++ (o.ids ++ w)) = ap (λ y. y ++ w) o.whole ∙ regroup o.front o.count o.ids w in
      let outside = rw (o.box.whole, append_assoc o.box.before) at whole in
      let k1 = ap length whole in
      let k2 = length-append o.front (o.count ++ (o.ids ++ w)) in
      let ends = o.box.ends in
      let da : depth (annotated ss v.payload) ≡ depth v = depth-out (annotated ss v.payload) ∙ sym (depth-out v) in
      let full : o.box.n ≡ length (o.count ++ (o.ids ++ w)) = omega arith in
      rw outside (deliver_stands spot s fs o.box.before (o.box.header ++ (o.count ++ (o.ids ++ w))) (annotated ss v.payload) o.box.outer
      (binary_comes spot.context fs _ _ o.bare (wrapped o.box.header o.count o.ids w ss v.payload (rw full at o.box.head) o.number o.some o.symbols b))
      (e ∙ ap length outside) (omega arith) (ends_back l spot.start fs Form.Wrapper spot.used refl (rw r o.box.room)) o.box.admits.receives
      (named_struct fs Form.Wrapper refl o.box.admits.named))
  deliver_stands spot s (frames.Named end ms (Err x) ∷ fs) u w v o b e d r rc nm = absurd (let q : Some x ≡ None = nm in cc)
  deliver_stands spot s (frames.Named end ms (Ok n) ∷ fs) u w v o b e d r rc nm =
      let i = o.inside in
      let m = field_deepest-more ms (field_of n v) in
      let deep = i.deep in
      let whole : u ++ w ≡ i.front ++ (i.body ++ (o.id ++ w)) = rw (o.whole, append_assoc o.front, i.whole, append_assoc i.front) refl in
      fields_stand spot s fs _ end _ (deliver_stands spot s fs)
      (record {
        front = i.front;
        body = i.body ++ (o.id ++ w);
        form = i.form;
        whole = whole;
        box = i.box;
        kind = i.kind;
        items = one_field i.body o.id w ms o.k n v i.items o.number (sym o.named) b;
        deep = omega arith;
        within = omega arith;
      }) e
  deliver_stands spot s (frames.Items end x vs ∷ fs) u w v o b e d r rc nm =
      let m = deepest-more vs v in
      let deep = o.deep in
      let whole : u ++ w ≡ o.front ++ (o.body ++ w) = ap (λ y. y ++ w) o.whole ∙ append_assoc o.front o.body w in
      let items = one_more o.body w vs v o.items b in
      items_stand spot s fs (u ++ w) end x (vs ++ v ∷ []) (deliver_stands spot s fs)
      (record { front = o.front; body = o.body ++ w; whole = whole; box = o.box; items = items; deep = omega arith; within = omega arith }) e

  -- a pad ends here
  pub skip_stands : (spot : Spot) (s : List Value) (fs : List Frame) (u w : List ℕ) → Opened g l spot.start spot.context s fs u → Receives fs → IsBare fs
      → IsPad w → spot.used ≡ length (u ++ w) → BodyMayEnd l spot.start fs Form.Pad spot.used
      → Leaves g l (u ++ w) s (proceed (under g l) spot fs)
  skip_stands spot s [] u w o i y b e r = record { used = e; standing = record { opened = (skips u w s spot.context o.0 b, sym e); receives = tt; more = tt } }
  skip_stands spot s (frames.Fields end ms ∷ fs) u w o i y b e r = absurd i
  skip_stands spot s (frames.Annotated end ss ∷ fs) u w o i y b e r = absurd y
  skip_stands spot s (frames.Items end x vs ∷ fs) u w o i y b e r =
      let deep = o.deep in
      let whole : u ++ w ≡ o.front ++ (o.body ++ w) = ap (λ y. y ++ w) o.whole ∙ append_assoc o.front o.body w in
      items_stand spot s fs (u ++ w) end x vs (deliver_stands spot s fs)
      (record { front = o.front; body = o.body ++ w; whole = whole; box = o.box; items = padded o.body w vs o.items b; deep = deep; within = omega arith }) e
  skip_stands spot s (frames.Named end ms name ∷ fs) u w o j y b e r =
      let i = o.inside in
      let whole : u ++ w ≡ i.front ++ (i.body ++ (o.id ++ w)) = rw (o.whole, append_assoc o.front, i.whole, append_assoc i.front) refl in
      fields_stand spot s fs _ end ms (deliver_stands spot s fs)
      (record {
        front = i.front;
        body = i.body ++ (o.id ++ w);
        form = i.form;
        whole = whole;
        box = i.box;
        kind = i.kind;
        items = padded_field i.body o.id w ms o.k i.items o.number b;
        deep = i.deep;
        within = omega arith;
      }) e

  -- no more levels are open than the limit has
  pub shallow : (start : ℕ) (c : List Slot) (s : List Value) (fs : List Frame) (u : List ℕ) → Opened g l start c s fs u → levels fs ≤ l.depth
  shallow start c s [] u o = omega arith
  shallow start c s (frames.Named end ms name ∷ fs) u o = let d = o.inside.deep in omega arith
  shallow start c s (frames.Annotated end ss ∷ fs) u o = shallow start c s fs o.box.before o.box.outer
  shallow start c s _ u o = let d = o.deep in omega arith
