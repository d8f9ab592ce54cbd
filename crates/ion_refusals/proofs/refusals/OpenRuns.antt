-- Behind octets the machine holds the containers that stand open there.
use Rattle.std.proofs.Common.{◌≡◌, ℕ, ◌+◌, ◌<◌, List, [], ◌∷◌, ◌++◌, length, Result, Ok, Err, Option, None, Bool, true, false, refl, ap, sym, ◌∙◌, subst, arith, length-append, append_assoc, lt-ltb, eq-eqb, ne_eqb}
use Rattle.std.proofs.lemmas.Bool.{cond-true, cond-false}
use Rattle.ion_refusals.specs.BinaryNames.{Catalog, Field, Form, Frame, Headed, InNumber, InStruct, IsStruct, Items, Limits, ListOrSexp, MayReach, Named, Noted, Open, Phase, Purpose, Ready, Reason, Slot, Value, VarUInt, at, begin, hollow, initial, is_pad, is_wrapper, led, nameless, open_struct, resolve, run, run-append, run_after, run_on, run_via, spot_at, then_after, then_run, under}
use Rattle.ion_binary.specs.Deciding.{Container, MayBegin, Names}
use Rattle.ion_binary.specs.machine.EachOctet as machine
use Rattle.ion_binary.specs.machine.Frames as frames
use Rattle.ion_binary.specs.laws.reading.Complete.{Admits, count_goes, fields_go, fields_run, header_run, ids_run, items_go, items_run, name_run, number_run}
use Rattle.ion_binary.specs.laws.reading.Documents.{pieces_run}
use Rattle.ion_binary.specs.laws.reading.OpenFrames.{Match, items, named, names, noted, nothing_open, same_levels}
use Rattle.ion_binary.specs.laws.reading.Stands.{BodyMayEnd}

pub reach_ends : (l : Limits) (start : ℕ) (c : List Slot) (fs : List Frame) (ks : List Container) (form : Form) (to : ℕ) → Match c fs ks
    → MayReach l start ks (is_pad form) to → BodyMayEnd l start fs form to
reach_ends l start c _ _ form to nothing_open h = h
reach_ends l start c _ _ form to _ h = h

named_ok : (form : Form) (end : ℕ) (ms : List Field) (fs : List Frame) (r : Result (Option (List ℕ)) Reason)
    → (is_pad form ≡ false → (s : Option (List ℕ)) × (r ≡ Ok s)) → nameless (frames.Named end ms r ∷ fs) form ≡ None
named_ok form end ms fs (Ok s) h = refl
named_ok form end ms fs (Err e) h = go (is_pad form) refl
  where
    go : (b : Bool) → is_pad form ≡ b → nameless (frames.Named end ms (Err e) ∷ fs) form ≡ None
    go true i = cond-true _ _ _ i
    go false i = let k = (h i).1 in absurd cc

-- a form that may begin in the containers may stand in the frames
pub may_admit : (c : List Slot) (fs : List Frame) (ks : List Container) (form : Form) → Match c fs ks → MayBegin c ks (is_pad form) (is_wrapper form)
    → Admits fs form
may_admit c _ _ form (names end ms fs ks m) h = absurd h
may_admit c _ _ form (named end id ms fs ks m) h = record { fitting = refl; named = named_ok form end ms fs (resolve c id) h }
may_admit c _ _ form (noted end ss fs ks m) h = record { fitting = cond-false _ _ _ h; named = refl }
may_admit c _ _ form _ h = record { fitting = refl; named = refl }

-- the name of a field comes next in a struct, and a descriptor elsewhere
abbrev pub phase_of : List Container → Phase
phase_of (Names end ∷ ks) = InNumber Purpose.FieldName 0
phase_of _ = Ready

module _ (g : Catalog) (l : Limits) (c : List Slot) (start : ℕ) where
  -- the octets lead to the machine that holds these containers
  pub record Leads (ks : List Container) (u : List ℕ) : Type 0 where
    pub given : List (Value × ℕ)
    pub fs : List Frame
    pub match : Match c fs ks
    pub ran : run g l 0 initial u ≡ record { given = given; now = Ok (at (spot_at (length u) start c) fs (phase_of ks)) }

  onward : (ks js : List Container) (before w u : List ℕ) (fs : List Frame) → (d : Leads ks before) → u ≡ before ++ w → Match c fs js
      → run g l (length before) (at (spot_at (length before) start c) d.fs (phase_of ks)) w ≡ led (at (spot_at (length u) start c) fs (phase_of js))
      → Leads js u
  onward ks js before w u fs d e m r = record {
    given = d.given ++ [];
    fs = fs;
    match = m;
    ran = ap (λ x. run g l 0 initial x) e
        ∙ (run-append g l 0 (length before) before w (omega arith) initial
        ∙ (ap (λ x. then_run x (λ n. run g l (length before) n w)) d.ran
        ∙ ap (λ x. record { given = d.given ++ x.given; now = x.now }) r));
  }

  -- from a header on
  pub headed_run : (ks : List Container) (fs : List Frame) (form : Form) (end : ℕ) (u body : List ℕ) (Outer : List ℕ → Type 0)
      → (h : Headed l c start Outer ks form end u) → hollow form h.n ≡ None → Match c fs ks
      → run g l (length h.before) (at (spot_at (length h.before) start c) fs Ready) (h.header ++ body)
      ≡ run_on (length u) (λ n. run g l (length u) n body) (begin (under g l) (spot_at (length u) start c) fs form h.n)
  headed_run ks fs form end u body Outer h hol m =
      let k = ap length h.parts in
      let j = length-append h.before h.header in
      run-append g l (length h.before) (length u) h.header body (omega arith) (at (spot_at (length h.before) start c) fs Ready)
      ∙ (ap (λ x. then_run x (λ n. run g l (length u) n body))
      (header_run g l _ fs form h.header h.n _ h.head hol (may_admit c fs ks form m h.begins) (omega arith)
      (reach_ends l start c fs ks form _ m (subst (MayReach l start ks (is_pad form)) h.ends h.reaches)))
      ∙ then_after (length u) (begin (under g l) (spot_at (length u) start c) fs form h.n) (λ n. run g l (length u) n body))

  -- where a form may begin, the machine is ready for a descriptor
  pub takes_phase : (ks : List Container) (form : Form) → MayBegin c ks (is_pad form) (is_wrapper form) → phase_of ks ≡ Ready
  takes_phase (Names end ∷ ks) form h = absurd h
  takes_phase _ form h = refl

  -- a header behind octets that lead so far, and what follows it
  behind_header : (ks js : List Container) (form : Form) (end : ℕ) (front body u : List ℕ) (fs : List Frame) (Outer : List ℕ → Type 0)
      → (h : Headed l c start Outer ks form end front) → hollow form h.n ≡ None → (d : Leads ks h.before) → u ≡ front ++ body → Match c fs js
      → run_on (length front) (λ n. run g l (length front) n body) (begin (under g l) (spot_at (length front) start c) d.fs form h.n)
      ≡ led (at (spot_at (length u) start c) fs (phase_of js)) → Leads js u
  behind_header ks js form end front body u fs Outer h hol d e m r =
      onward ks js h.before (h.header ++ body) u fs d (e ∙ (ap (λ x. x ++ body) h.parts ∙ append_assoc h.before h.header body)) m
      (ap (λ p. run g l (length h.before) (at (spot_at (length h.before) start c) d.fs p) (h.header ++ body)) (takes_phase ks form h.begins)
      ∙ (headed_run ks d.fs form end front body Outer h hol d.match ∙ r))

  struct_opens : (fs : List Frame) (form : Form) (n : ℕ) (used : ℕ) → IsStruct form → 0 < n → begin (under g l) (spot_at used start c) fs form n
      ≡ open_struct (under g l) (spot_at used start c) fs n
  struct_opens fs Form.Struct n used i h = refl
  struct_opens fs Form.OrderedStruct n used i h = refl
  struct_opens fs _ n used i h = absurd i

  struct_hollow : (form : Form) (n : ℕ) → IsStruct form → 0 < n → hollow form n ≡ None
  struct_hollow Form.Struct n i h = refl
  struct_hollow Form.OrderedStruct n i h = cond-false _ _ _ (ne_eqb n 0 (λ e. omega arith))
  struct_hollow _ n i h = absurd i

  pub struct_run : (ks : List Container) (end : ℕ) (u : List ℕ) → (o : InStruct l c start (Open g l c start ks) ks end u) → Leads ks o.headed.before
      → Leads (Names end ∷ ks) u
  struct_run ks end u o d =
      let k = ap length o.parts in
      let j = length-append o.front o.body in
      let e = o.headed.ends in
      let more = o.more in
      let deep = o.deep in
      let same = same_levels c d.fs ks d.match in
      let here : length o.front + o.headed.n ≡ end = sym e in
      behind_header ks (Names end ∷ ks) o.form end o.front o.body u (frames.Fields end o.fields ∷ d.fs) _ o.headed
      (struct_hollow o.form o.headed.n o.struct (omega arith)) d o.parts (names end o.fields d.fs ks d.match)
      (ap (run_on (length o.front) (λ n. run g l (length o.front) n o.body)) (struct_opens d.fs o.form o.headed.n (length o.front) o.struct (omega arith)
      ∙ cond-true _ _ _ (lt-ltb (machine.levels d.fs) l.depth (omega arith)))
      ∙ (rw here (fields_run g l (length o.front) start c d.fs end (length u) o.body o.fields o.come (omega arith) (omega arith) (omega arith))
      ∙ ap (run_after (length u)) (fields_go g l (spot_at (length u) start c) d.fs end o.fields more)))

  -- the innermost of the frames is that of a struct
  record NamesMatch (ks : List Container) (end : ℕ) (fs : List Frame) : Type 0 where
    fields : List Field
    outer : List Frame
    are : fs ≡ frames.Fields end fields ∷ outer
    match : Match c outer ks

  -- the id of a field's name
  named_on : (ks : List Container) (end id : ℕ) (u front name : List ℕ) → (d : Leads (Names end ∷ ks) front) → (m : NamesMatch ks end d.fs) → u ≡ front ++ name
      → VarUInt name id → length u < end → Leads (Named end id ∷ ks) u
  named_on ks end id u front name d m e v more =
      let k = ap length e in
      let j = length-append front name in
      onward (Names end ∷ ks) (Named end id ∷ ks) front name u (frames.Named end m.fields (resolve c id) ∷ m.outer) d e
      (named end id m.fields m.outer ks m.match)
      (ap (λ fs. run g l (length front) (at (spot_at (length front) start c) fs (InNumber Purpose.FieldName 0)) name) m.are
      ∙ name_run g l (spot_at (length front) start c) m.outer end m.fields name id (length u) (resolve c id) v refl (omega arith) more)

  names_match : (ks : List Container) (end : ℕ) (fs : List Frame) → Match c fs (Names end ∷ ks) → NamesMatch ks end fs
  names_match _ _ _ (names end ms fs ks m) = record { fields = ms; outer = fs; are = refl; match = m }

  -- what stands open behind octets is what they lead to
  pub open_run : (ks : List Container) (u : List ℕ) → Open g l c start ks u → Leads ks u
  open_run [] u o =
      let r = pieces_run g l u o.0 c o.1 in
      record {
        given = r.given;
        fs = [];
        match = nothing_open;
        ran = r.ran ∙ ap (λ n. record { given = r.given; now = Ok (at (spot_at (length u) n c) [] Ready) }) o.2;
      }
  open_run (Items end ∷ ks) u o =
      let d = open_run ks o.headed.before o.headed.outer in
      let k = ap length o.parts in
      let j = length-append o.front o.body in
      let e = o.headed.ends in
      let more = o.more in
      let deep = o.deep in
      let same = same_levels c d.fs ks d.match in
      let here : length o.front + o.headed.n ≡ end = sym e in
      behind_header ks (Items end ∷ ks) (Form.ListOrSexp o.listing) end o.front o.body u (frames.Items end o.listing o.items ∷ d.fs) _ o.headed refl d o.parts
      (items end o.listing o.items d.fs ks d.match)
      (ap (run_on (length o.front) (λ n. run g l (length o.front) n o.body)) (cond-true _ _ _ (lt-ltb (machine.levels d.fs) l.depth (omega arith)))
      ∙ (rw here (items_run g l (length o.front) start c d.fs end o.listing (length u) o.body o.items o.come (omega arith) (omega arith) (omega arith))
      ∙ ap (run_after (length u)) (items_go g l (spot_at (length u) start c) d.fs end o.listing o.items more)))
  open_run (Names end ∷ ks) u o = struct_run ks end u o (open_run ks o.headed.before o.headed.outer)
  open_run (Named end id ∷ ks) u o =
      let i = o.inside in
      let d = struct_run ks end o.front i (open_run ks i.headed.before i.headed.outer) in
      let k = ap length o.parts in
      let j = length-append o.front o.name in
      named_on ks end id u o.front o.name d (names_match ks end d.fs d.match) o.parts o.number o.more
  open_run (Noted end ∷ ks) u o =
      let d = open_run ks o.headed.before o.headed.outer in
      let k = ap length o.parts in
      let j = length-append o.front (o.count ++ o.ids) in
      let j2 = length-append o.count o.ids in
      let e = o.headed.ends in
      let more = o.more in
      let some = o.some in
      let mid = length o.front in
      let mid2 = mid + length o.count in
      let here : mid + o.headed.n ≡ end = sym e in
      let there : length u ≡ mid2 + length o.ids = omega arith in
      behind_header ks _ Form.Wrapper end o.front _ u _ _ o.headed
      (cond-false _ _ _ (ne_eqb o.headed.n 0 (λ x. omega arith))) d o.parts (noted end o.symbols d.fs ks d.match)
      (rw here (run_via g l mid mid2 _ _ _ o.count o.ids refl
      (number_run g l (spot_at mid start c) (frames.Annotated end [] ∷ d.fs) Purpose.AnnotationsLength o.count (length o.ids) mid2 o.number refl (omega arith)
      ∙ ap (run_after mid2) (count_goes g l (spot_at mid2 start c) d.fs end (length o.ids) [] some (omega arith)))
      (ids_run g l _ d.fs end _ o.ids o.symbols _ o.come (omega arith) there (omega arith)
      ∙ ap (λ ph. led (at (spot_at (length u) start c) (frames.Annotated end o.symbols ∷ d.fs) ph))
      (cond-true _ _ _ (eq-eqb (length u) (mid2 + length o.ids) there)))))
