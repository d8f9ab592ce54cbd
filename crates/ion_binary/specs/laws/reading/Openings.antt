-- What stands for octets is what stands open behind them.
use Rattle.std.proofs.Common.{◌≡◌, ℕ, ◌<◌, ◌≤◌, ◌||◌, List, [], ◌∷◌, length, Result, Ok, Err, Option, Some, None, Bool, true, false, cond, refl, ap, arith, length-append}
use Rattle.ion_binary.specs.Names.{Catalog, Count, Field, Form, Frame, Headed, Id, Items, LastOctet, Length, Limits, Malformed, MayGoOn, MayReach, Name, Named, Noted, Number, Open, Purpose, Reason, Slot, TakesValue, Value, a_count, a_length, a_name, an_id, is_pad, is_wrapper, of_container, resolve}
use Rattle.ion_binary.specs.Deciding as deciding
use Rattle.ion_binary.specs.Deciding.{Container, MayBegin, Names}
use Rattle.ion_binary.specs.machine.Frames as frames
use Rattle.ion_binary.specs.laws.reading.Complete.{header_some}
use Rattle.ion_binary.specs.laws.reading.OpenFrames.{InFrames, Match, count_in, id_in, items, length_in, name_in, named, names, noted, nothing_open, purpose_of, same_levels}
use Rattle.ion_binary.specs.laws.reading.Stands.{BodyMayEnd, Box, Fitting, InFields, Inside, IsStructOf, NumberBegins, NumberGoing, NumberStands, Opened, Receives}

-- where the frames let a descriptor come, one comes next in the containers
pub takes : (c : List Slot) (fs : List Frame) (ks : List Container) → Match c fs ks → Receives fs → TakesValue ks
takes c _ _ (names end ms fs ks m) r = absurd r
takes c _ _ _ r = tt

-- where a reason would be given if a test held, and none is, the test fails
pub some_none : (b : Bool) (x : Reason) → cond b (Some x) None ≡ None → b ≡ false
some_none true x h = cc
some_none false x h = refl

-- a form that may stand in the frames may begin in the containers
pub may_begin : (c : List Slot) (fs : List Frame) (ks : List Container) (form : Form) → Match c fs ks → Fitting fs form
    → MayBegin c ks (is_pad form) (is_wrapper form)
may_begin c _ _ form (names end ms fs ks m) h = absurd h.receives
may_begin c _ _ form (noted end ss fs ks m) h = some_none (is_pad form || is_wrapper form) Malformed h.fitting
may_begin c _ _ form (named end id ms fs ks m) h = λ p. go (resolve c id) refl p
  where
    go : (r : Result (Option (List ℕ)) Reason) → resolve c id ≡ r → is_pad form ≡ false → (s : Option (List ℕ)) × (resolve c id ≡ Ok s)
    go (Ok s) e p = (s, e)
    go (Err x) e p =
        let q : Some x ≡ None = rw (e, p) at h.named in absurd cc
may_begin c _ _ form _ h = tt

-- a body may reach in the containers up to where it may end in the frames
pub may_reach : (l : Limits) (start : ℕ) (c : List Slot) (fs : List Frame) (ks : List Container) (form : Form) (to : ℕ) → Match c fs ks
    → BodyMayEnd l start fs form to → MayReach l start ks (is_pad form) to
may_reach l start c _ _ form to nothing_open h = h
may_reach l start c _ _ form to _ h = h

is_struct : (form : Form) (n : ℕ) → IsStructOf form n → deciding.IsStruct form
is_struct Form.Struct n h = tt
is_struct Form.OrderedStruct n h = tt
is_struct _ n h = absurd h

-- what ends inside of a container begins there
pub ends_inside : (l : Limits) (start : ℕ) (fs : List Frame) (form : Form) (end n : ℕ) → BodyMayEnd l start fs form end → n < end → Inside fs n
ends_inside l start [] form end n r h = tt
ends_inside l start (frames.Annotated e ss ∷ fs) form end n r h = omega arith
ends_inside l start _ form end n r h = omega arith

module _ (g : Catalog) (l : Limits) (start : ℕ) (c : List Slot) (s : List Value) where
  -- the frames are containers that stand open
  pub record Shape (fs : List Frame) (u : List ℕ) : Type 0 where
    pub ks : List Container
    pub match : Match c fs ks
    pub open' : Open g l c start ks u

  headed : (fs : List Frame) (form : Form) (end : ℕ) (u : List ℕ) → (b : Box l start (Opened g l start c s fs) fs form end u) → (o : Shape fs b.before)
      → Headed l c start (Open g l c start o.ks) o.ks form end u
  headed fs form end u b o = record {
    before = b.before;
    header = b.header;
    n = b.n;
    parts = b.whole;
    outer = o.open';
    begins = may_begin c fs o.ks form o.match b.admits;
    head = b.head;
    ends = b.ends;
    reaches = may_reach l start c fs o.ks form end o.match b.room;
  }

  box_inside : (fs : List Frame) (form : Form) (end : ℕ) (u : List ℕ) → (b : Box l start (Opened g l start c s fs) fs form end u) → Inside fs (length b.before)
  box_inside fs form end u b =
      let k = ap length b.whole in
      let j = length-append b.before b.header in
      let h = header_some form b.n b.header b.head in
      let e = b.ends in
      ends_inside l start fs form end (length b.before) b.room (omega arith)

  struct_open : (fs : List Frame) (end : ℕ) (ms : List Field) (u : List ℕ) → (i : InFields l start c (Opened g l start c s fs) fs end ms u)
      → (o : Shape fs i.box.before) → Match c fs o.ks → length u < end → deciding.InStruct l c start (Open g l c start o.ks) o.ks end u
  struct_open fs end ms u i o m h =
      let d = i.deep in
      let e = same_levels c fs o.ks o.match in
      record {
        front = i.front;
        body = i.body;
        form = i.form;
        fields = ms;
        parts = i.whole;
        headed = headed fs i.form end i.front i.box o;
        struct = is_struct i.form i.box.n i.kind;
        come = i.items;
        deep = omega arith;
        more = h;
      }

  -- what has come of open frames stands open as containers
  pub opened_open : (fs : List Frame) (u : List ℕ) → Opened g l start c s fs u → Inside fs (length u) → Shape fs u
  opened_open [] u o i = record { ks = []; match = nothing_open; open' = (s, o.0, o.1) }
  opened_open (frames.Items end x vs ∷ fs) u o i =
      let p = opened_open fs o.box.before o.box.outer (box_inside fs (Form.ListOrSexp x) end o.front o.box) in
      let d = o.deep in
      let e = same_levels c fs p.ks p.match in
      record {
        ks = Items end ∷ p.ks;
        match = items end x vs fs p.ks p.match;
        open' = record {
          front = o.front;
          body = o.body;
          listing = x;
          items = vs;
          parts = o.whole;
          headed = headed fs _ end o.front o.box p;
          come = o.items;
          deep = omega arith;
          more = i;
        };
      }
  opened_open (frames.Fields end ms ∷ fs) u o i =
      let p = opened_open fs o.box.before o.box.outer (box_inside fs o.form end o.front o.box) in
      record { ks = Names end ∷ p.ks; match = names end ms fs p.ks p.match; open' = struct_open fs end ms u o p p.match i }
  opened_open (frames.Named end ms name ∷ fs) u o i =
      let b = o.inside.box in
      let p = opened_open fs b.before b.outer (box_inside fs o.inside.form end o.inside.front b) in
      let k = ap length o.whole in
      let j = length-append o.front o.id in
      let w = o.within in
      record {
        ks = Named end o.k ∷ p.ks;
        match = rw o.named (named end o.k ms fs p.ks p.match);
        open' = record {
          front = o.front;
          name = o.id;
          parts = o.whole;
          inside = struct_open fs end ms o.front o.inside p p.match (omega arith);
          number = o.number;
          more = w;
        };
      }
  opened_open (frames.Annotated end ss ∷ fs) u o i =
      let p = opened_open fs o.box.before o.box.outer (box_inside fs Form.Wrapper end o.front o.box) in
      record {
        ks = Noted end ∷ p.ks;
        match = noted end ss fs p.ks p.match;
        open' = record {
          front = o.front;
          count = o.count;
          ids = o.ids;
          symbols = ss;
          parts = o.whole;
          headed = headed fs Form.Wrapper end o.front o.box p;
          number = o.number;
          some = o.some;
          come = o.symbols;
          more = o.within;
        };
      }

  -- in a number
  pub record Numbered (fs : List Frame) (p : Purpose) (a : ℕ) (u : List ℕ) : Type 0 where
    pub ks : List Container
    pub q : Number
    pub same : purpose_of q ≡ p
    pub frames' : InFrames c ks q fs
    pub inside : deciding.InNumber g l c start ks q a u

  -- the octet with which a number must have ended, if there is one
  abbrev last_of : Number → List Container → ℕ
  last_of (Length form) (k ∷ ks) = deciding.container_end k
  last_of Name (k ∷ ks) = deciding.container_end k
  last_of (Count end) ks = end
  last_of (Id stop) ks = stop
  last_of _ [] = 0

  is_last : (ks : List Container) (q : Number) (last : ℕ) → LastOctet g l c start ks q last → last ≡ last_of q ks
  is_last _ _ _ (of_container _ _ _) = refl
  is_last _ _ _ _ = refl

  -- where a number may go on
  may_go : (ks : List Container) (q : Number) (fs : List Frame) (used : ℕ) → InFrames c ks q fs → NumberGoing l start fs (purpose_of q) used
      → MayGoOn g l c start ks q used
  may_go _ _ _ used (length_in _ form _ nothing_open) h = h
  may_go _ _ _ used (name_in _ _ _ (names _ _ _ _ _)) h = λ last r. rw (is_last _ _ last r) h
  may_go _ _ _ used (count_in [] _ _ _) h = λ last r. rw (is_last _ _ last r) h
  may_go _ _ _ used (id_in [] _ _ _ _ _) h = λ last r. rw (is_last _ _ last r) h
  may_go _ _ _ used _ h = λ last r. rw (is_last _ _ last r) h

  -- before a number
  record Begun (fs : List Frame) (p : Purpose) (u : List ℕ) : Type 0 where
    ks : List Container
    q : Number
    same : purpose_of q ≡ p
    frames' : InFrames c ks q fs
    comes : deciding.Before g l c start ks q u

  begun : (fs : List Frame) (p : Purpose) (u : List ℕ) (used : ℕ) → length u ≤ used → NumberBegins g l start c s fs p u → NumberGoing l start fs p used
      → Begun fs p u
  begun fs (Purpose.Length form) u used few o h =
      let p = opened_open fs o.before o.outer o.more in
      record {
        ks = p.ks;
        q = Length form;
        same = refl;
        frames' = length_in p.ks form fs p.match;
        comes = rw o.whole (a_length p.ks o.before o.b form p.open' o.head (may_begin c fs p.ks form p.match o.admits));
      }
  begun (frames.Fields end ms ∷ fs) Purpose.FieldName u used few o h =
      let left : used < end = h in
      let p = opened_open (frames.Fields end ms ∷ fs) u o (omega (arith, few, left)) in
      by p.ks p.match p.open'
    where
      by : (ks : List Container) → Match c (frames.Fields end ms ∷ fs) ks → Open g l c start ks u → Begun (frames.Fields end ms ∷ fs) Purpose.FieldName u
      by _ (names _ _ _ ks m) x = record {
        ks = Names end ∷ ks;
        q = Name;
        same = refl;
        frames' = name_in end ks (frames.Fields end ms ∷ fs) (names end ms fs ks m);
        comes = a_name end ks u x;
      }
  begun (frames.Annotated end ss ∷ fs) Purpose.AnnotationsLength u used few o h =
      let p = opened_open fs o.box.before o.box.outer (box_inside fs Form.Wrapper end u o.box) in
      record {
        ks = p.ks;
        q = Count end;
        same = refl;
        frames' = rw o.none_yet (count_in p.ks end fs p.match);
        comes = a_count p.ks end u (headed fs Form.Wrapper end u o.box p);
      }
  begun (frames.Annotated end ss ∷ fs) (Purpose.Annotation stop) u used few o h =
      let p = opened_open fs o.box.before o.box.outer (box_inside fs Form.Wrapper end o.front o.box) in
      record {
        ks = p.ks;
        q = Id stop;
        same = refl;
        frames' = id_in p.ks end stop ss fs p.match;
        comes = rw (o.stops, o.whole) (an_id p.ks end o.n o.front o.count o.ids ss (headed fs Form.Wrapper end o.front o.box p) o.number o.some o.symbols
            (omega (arith, o.stops, o.room)));
      }
  begun _ _ u used few o h = absurd o

  -- where the machine stands in a VarUInt, the octets end inside of one
  pub numbered : (fs : List Frame) (p : Purpose) (a : ℕ) (u : List ℕ) → NumberStands g l start c s fs p a u → Numbered fs p a u
  numbered fs p a u o =
      let n = begun fs p o.front (length u) (omega (arith, ap length o.whole, length-append o.front o.digits)) o.begins o.going in
      record {
        ks = n.ks;
        q = n.q;
        same = n.same;
        frames' = n.frames';
        inside = record {
          before = o.front;
          digits = o.digits;
          parts = o.whole;
          comes = n.comes;
          small = o.small;
          value = o.value;
          bound = o.bound;
          goes_on = may_go n.ks n.q fs (length u) n.frames' (rw n.same o.going);
        };
      }
