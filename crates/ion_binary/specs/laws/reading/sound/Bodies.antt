-- What an octet of a scalar's body or of a pad leaves stands for the octets.
use Rattle.std.proofs.Common.{◌≡◌, ℕ, zero, suc, List, [], ◌∷◌, ◌++◌, length, refl, ap, ◌∙◌, arith, length-append, append_assoc}
use Rattle.ion_binary.specs.Names.{Catalog, Form, Frame, Limits, Scalar, Spot, Value, bad_body, bare, is_scalar, length-one, on_body, on_pad, skipped, under}
use Rattle.ion_binary.specs.machine.AtOnce.{body_more, pad_more}
use Rattle.ion_binary.specs.laws.reading.Complete.{header_some}
use Rattle.ion_binary.specs.laws.reading.Judged.{judge_sound, scalar_flat}
use Rattle.ion_binary.specs.laws.reading.Openings.{ends_inside, may_begin, may_reach, opened_open}
use Rattle.ion_binary.specs.laws.reading.Stands.{BodyStands, Leaves}
use Rattle.ion_binary.specs.laws.reading.sound.Bounds.{ends_back, judged_leaves, named_struct}
use Rattle.ion_binary.specs.laws.reading.sound.Containers.{deliver_stands, length_3, plain_comes, regroup, shallow, skip_stands}

module _ (g : Catalog) (l : Limits) (spot : Spot) (s : List Value) (fs : List Frame) (u : List ℕ) (b : ℕ) (e : spot.used ≡ length (u ++ b ∷ [])) where
  -- with one octet more
  whole_on : (form : Form) (n : ℕ) (came : List ℕ) (o : BodyStands g l spot.start spot.context s fs form n came u)
      → u ++ b ∷ [] ≡ o.before ++ (o.header ++ (came ++ b ∷ []))
  whole_on form n came o = ap (λ x. x ++ b ∷ []) o.whole ∙ regroup o.before o.header came (b ∷ [])

  goes_on : (form : Form) (n : ℕ) (came : List ℕ) → BodyStands g l spot.start spot.context s fs form (suc n) came u
      → BodyStands g l spot.start spot.context s fs form n (came ++ b ∷ []) (u ++ b ∷ [])
  goes_on form n came o =
      record {
        before = o.before;
        header = o.header;
        whole = whole_on form (suc n) came o;
        outer = o.outer;
        accepts = o.accepts;
        admits = o.admits;
        size = o.size;
        sizes = omega (arith, o.sizes, length-one came b);
        end = o.end;
        ends = o.ends;
        head = o.head;
        room = o.room;
      }

  -- with the last one
  record Ends (form : Form) (came : List ℕ) (o : BodyStands g l spot.start spot.context s fs form 0 came u) : Type 0 where
    full : o.size ≡ length (came ++ b ∷ [])
    here : o.end ≡ spot.used

  ends : (form : Form) (came : List ℕ) (o : BodyStands g l spot.start spot.context s fs form 0 came u) → Ends form came o
  ends form came o =
      let size : o.size ≡ length (came ++ b ∷ []) = omega (arith, o.sizes, length-one came b) in
      record { full = size; here = omega (arith, o.ends, ap length (whole_on form 0 came o), length_3 o.before o.header (came ++ b ∷ [])) }

  -- on an octet of a body
  pub body_stands : (t : Scalar) (n : ℕ) (came : List ℕ) → BodyStands g l spot.start spot.context s fs (Form.Scalar t) n came u
      → Leaves g l (u ++ b ∷ []) s (on_body (under g l) spot fs t n (came ++ b ∷ []))
  body_stands t zero came o =
      let body = came ++ b ∷ [] in
      let whole = whole_on (Form.Scalar t) 0 came o in
      let i = ends (Form.Scalar t) came o in
      let full = i.full in
      let here = i.here in
      let placed = o.ends in
      let k1 = ap length whole in
      let k2 = length_3 o.before o.header body in
      let one = length-one came b in
      let sh = shallow g l spot.start spot.context s fs o.before o.outer in
      let some = header_some _ o.size o.header o.head in
      let k3 = length-append o.before o.header in
      let sp = opened_open g l spot.start spot.context s fs o.before o.outer
      (ends_inside l spot.start fs _ o.end (length o.before) o.room (omega arith)) in
      judged_leaves g l _ s spot fs _
      (λ x j. rw (whole, ← append_assoc o.before o.header body) (bad_body spot.context spot.start o.end sp.ks t (o.before ++ o.header) body x
      (record {
        before = o.before;
        header = o.header;
        n = o.size;
        parts = refl;
        outer = sp.open';
        begins = may_begin spot.context fs sp.ks (Form.Scalar t) sp.match o.admits;
        head = o.head;
        ends = omega arith;
        reaches = may_reach l spot.start spot.context fs sp.ks _ o.end sp.match o.room;
      })
      (omega arith) (omega arith) j)) (λ p j.
      let is = judge_sound spot.context t body p j in
      let flat = scalar_flat spot.context body t p is in
      rw whole (deliver_stands g l spot s fs o.before (o.header ++ body) (bare p) o.outer
      (plain_comes spot.context fs _ _ (is_scalar o.header body t p (rw full at o.head) is))
      (e ∙ ap length whole) (omega arith) (ends_back l spot.start fs _ spot.used refl (rw here at o.room)) o.admits.receives
      (named_struct fs _ refl o.admits.named)))
  body_stands t (suc n) came o =
      rw (body_more g l spot fs t n came b) (record { used = e; standing = goes_on (Form.Scalar t) n came o })

  -- what an octet of a pad leads to stands for the octets
  pub pad_stands : (n : ℕ) (came : List ℕ) → BodyStands g l spot.start spot.context s fs Form.Pad n came u
      → Leaves g l (u ++ b ∷ []) s (on_pad (under g l) spot fs n)
  pad_stands zero came o =
      let whole = whole_on Form.Pad 0 came o in
      let i = ends Form.Pad came o in
      rw whole (skip_stands g l spot s fs o.before (o.header ++ (came ++ b ∷ [])) o.outer o.accepts.0 o.accepts.1
      (skipped o.header (came ++ b ∷ []) (rw i.full at o.head)) (e ∙ ap length whole) (rw i.here at o.room))
  pad_stands (suc n) came o =
      rw (pad_more g l spot fs n) (record { used = e; standing = (came ++ b ∷ [], goes_on Form.Pad n came o) })
