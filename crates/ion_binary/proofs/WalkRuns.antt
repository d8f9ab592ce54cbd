-- Runs over octets in a reader that holds no values.
use Rattle.std.proofs.Common.{◌≡◌, ℕ, ◌+◌, ◌-◌, ◌≤◌, ◌<◌, List, [], ◌∷◌, ◌++◌, length, take, drop, get_or, append-nil, length-append, None, Bool, true, false, Result, Ok, Err, refl, ap, sym, ◌∙◌, arith, ne_eqb}
use Rattle.std.specs.Prelude.{◌==◌, if◌then◌else◌}
use Rattle.std.specs.Option.{is_some}
use Rattle.std.proofs.lemmas.Bool.{false≢true}
use Rattle.std.proofs.lemmas.List.{length-take-le, take-append-drop, take_all}
use Rattle.ion_binary.specs.Names.{Answers, AreAround, BinaryWalk, Catalog, Does, Effect, EndsOn, Event, Frame, Gives, Goes, Holds, InBody, Incomplete, IsInside, Limits, Machine, Outcome, Phase, Reached, Ready, Reason, Refusal, Run, SameSetting, Scalar, StandsFor, StepsOver, Told, Value, Walked, Walks, WalksOn, WentOn, awaits, failed, feed, heard, if_ended, initial, judge, judged, machine_of, name_of, pending, run, run-append, run_after, run_of, setting_of, shells, spot_of, taken, told, trace, under, whole}
use Rattle.ion_visiting.specs.laws.Filters.{hears_none}
use Rattle.ion_symtab.specs.Walks.{DoesWalk}
use Rattle.ion_symtab.proofs.Walking.{not_failed, went_over, went_to_end}
use Rattle.ion_binary.specs.machine.EachOctet.{moved}
use Rattle.ion_binary.specs.walking.Holds.{Name}
use Rattle.ion_binary.specs.walking.Runs.{CountsOn, Led, TakesUp, Took, gave}
use Rattle.ion_binary.proofs.Insides.{body_ends, refused_whole}
use Rattle.ion_binary.proofs.PieceEnds.{LeadsFromStart, leads_by, leads_to_end, leads_to_value, whole_rest, within_rest}
use Rattle.ion_binary.proofs.Shells.{emptied}
use Rattle.ion_binary.proofs.Tellings.{gave_behind, went_behind}

-- 1. Octets at the front of a piece.

pub around_body : (phase : Phase) (t : Scalar) (n : ℕ) (fs : List Frame) → phase ≡ InBody t n → IsInside phase fs → AreAround fs
around_body phase t n fs is h = rw is at h

-- no octets were kept where their number is 0
pub empty_where : {A : Type 0} (w : List A) → (length w == 0) ≡ true → w ≡ []
empty_where [] e = refl
empty_where (b ∷ bs) e = absurd (false≢true (sym (ne_eqb (length (b ∷ bs)) 0 (λ i. omega arith)) ∙ e))

-- one octet
pub octet_run : (g : Catalog) (l : Limits) (used : ℕ) (m : Machine) (piece : List ℕ) → 0 < length piece
    → run g l used m (take 1 piece) ≡ run_after (used + 1) (feed (under g l) m (get_or piece 0 0))
octet_run g l used m [] some = absurd (omega arith)
octet_run g l used m (b ∷ bs) some = refl

module _ {V : Type 0} (takes : V → Event → V → Type 0) (es : List Event) where
  -- a run that a method's outcome ends
  pub reached_by : (o : Outcome) (effect : Effect) (r : BinaryWalk) (ran : Run) (to : ℕ) (a b : V) → ran ≡ run_after to o
      → Does takes es o (Ok effect) r a b → Reached takes es ran to effect r a b
  reached_by o Goes r ran to a b e d = (d.0, rw d.1 at e, d.2)
  reached_by o Gives r ran to a b e d = (d.0, rw d.1 at e, d.2)

module _ {V : Type 0} (takes : V → Event → V → Type 0) (r : BinaryWalk) (fs : List Frame) (h : Holds r fs) (piece : List ℕ) (new : BinaryWalk) (a b : V) where
  -- octets at the front of a piece that come to an outcome
  module _ (k : ℕ) (o : Outcome) (within : k ≤ length piece) (ran : run_of r fs (take k piece) ≡ run_after (r.used + k) o) where
    pub front_did : (result : Result Effect Reason) → new.used ≡ r.used + k → Does takes (told fs) o result new a b
        → Took takes (told fs) r.used (run_of r fs) piece result new a b
    front_did (Ok effect) used does =
        let count : new.used - r.used ≡ k = omega arith in
        rw count (rw (← used) at (reached_by takes (told fs) o effect new (run_of r fs (take k piece)) (r.used + k) a b ran does))
    front_did (Err reason) used does = λ other.
        rw used (refused_whole r.catalog.now r.limits r.used (machine_of r fs) piece k reason within (rw (does other) at ran))

  -- octets with whose last a scalar ends
  module _ (t : Scalar) (k : ℕ) (phase : r.phase ≡ InBody t (k - 1)) (some : 0 < k) (within : k ≤ length piece) where
    abbrev pub ends_with : ℕ → Outcome
    ends_with j = judged (setting_of r) (moved (spot_of r) (r.used + j)) fs (judge r.context t (r.body ++ take k piece))

    size : length (take k piece) ≡ k
    size = length-take-le k piece within

    pub ends_run : run_of r fs (take k piece) ≡ run_after (r.used + k) (ends_with k)
    ends_run = body_ends r.catalog.now r.limits (spot_of r) fs r.body t k r.phase piece phase some within

    pub ends_used : new.used ≡ r.used + length (take k piece) → new.used ≡ r.used + k
    ends_used e = omega (arith, size)

    pub ends_does : (result : Result Effect Reason)
        → ((gs : List Frame) → Holds r gs → AreAround gs → Does takes (told gs)
        (judged (setting_of r) (moved (spot_of r) (r.used + length (take k piece))) gs (judge r.context t (r.body ++ take k piece))) result new a b)
        → Does takes (told fs) (ends_with k) result new a b
    ends_does result does = rw size at (does fs h (around_body r.phase t (k - 1) fs phase h.inside))

-- octets that a body or a pad goes on behind
pub inside_took : {V : Type 0} (takes : V → Event → V → Type 0) (r new : BinaryWalk) (fs : List Frame) (piece : List ℕ) (k : ℕ) (a : V) → new.used ≡ r.used + k
    → Led (run_of r fs (take k piece)) new fs → Took takes (told fs) r.used (run_of r fs) piece (Ok Goes) new a a
inside_took takes r new fs piece k a used leads =
    let count : new.used - r.used ≡ k = omega arith in (
      fs,
      rw count leads.0,
      record { holds = leads.1; hears = hears_none takes (heard (told fs)) (heard (told fs)) a refl },
    )

-- 2. The octets of a piece, one step behind the other.

-- before the first of them
leads_none : (g : Catalog) (l : Limits) (to : ℕ) (m : Machine) (piece : List ℕ) → LeadsFromStart g l to m piece 0 m
leads_none g l to m piece = record { onward = λ rest. let i : to ≡ to + 0 = omega arith in ap (λ k. run g l k m rest) i }

module _ {V : Type 0} (takes : V → Event → V → Type 0) (r : BinaryWalk) (fs : List Frame) (piece : List ℕ) where
  -- i octets of the piece led to s, and a visitor heard what there is to hear
  pub record LedOn (i : ℕ) (s : BinaryWalk) (a b : V) : Type 0 where
    pub frames : List Frame
    pub leads : LeadsFromStart r.catalog.now r.limits r.used (machine_of r fs) piece i (machine_of s frames)
    pub went : WentOn takes (told fs) s frames a b

  pub led_on_none : Holds r fs → (a : V) → LedOn 0 r a a
  led_on_none h a = record {
    frames = fs;
    leads = leads_none r.catalog.now r.limits r.used (machine_of r fs) piece;
    went = record { holds = h; hears = hears_none takes (heard (told fs)) (heard (told fs)) a refl };
  }

  -- they led where the reader is
  pub led_took : (i : ℕ) (s : BinaryWalk) (a b : V) → s.used ≡ r.used + i → LedOn i s a b → Took takes (told fs) r.used (run_of r fs) piece (Ok Goes) s a b
  led_took i s a b used h =
      let count : s.used - r.used ≡ i = omega (arith, used) in
      (h.frames, rw count (rw (append-nil (take i piece)) at (h.leads.onward [])), h.went)

  module _ (i : ℕ) (s : BinaryWalk) (a m b : V) (catalog : s.catalog ≡ r.catalog) (limits : s.limits ≡ r.limits) (used : s.used ≡ r.used + i) (before : LedOn i s a m) (new : BinaryWalk) where
    abbrev rest : List ℕ
    rest = take (length piece - i) (drop i piece)

    -- how many octets of it were counted
    abbrev count : ℕ
    count = new.used - s.used

    pub led_on_more : TakesUp s.used new.used rest (Ok Goes) → Took takes (told before.frames) s.used (run_of s before.frames) rest (Ok Goes) new m b
        → LedOn (new.used - r.used) new a b
    led_on_more up took =
        let on : i + count ≡ new.used - r.used = omega (arith, up.0, used) in
        let within : count ≤ length rest = omega (arith, up.1) in
        rw (← on) (record {
          frames = took.0;
          leads = leads_by count (ap (λ (x : _). x.now) catalog) limits used within took.1 before.leads;
          went = went_behind takes (told fs) (told before.frames) new took.0 a m b before.went.hears took.2;
        })

    -- the same of a method that took up k octets
    pub led_on_by : (k : ℕ) → 0 < k → k ≤ length rest → new.used ≡ s.used + k
        → Took takes (told before.frames) s.used (run_of s before.frames) rest (Ok Goes) new m b → LedOn (i + k) new a b
    led_on_by k some within to took =
        let on : new.used - r.used ≡ i + k = omega (arith, to, used) in
        rw on at (led_on_more (omega (arith, some, to), omega (arith, within, to)) took)

    pub led_on_gives : TakesUp s.used new.used rest (Ok Gives) → Took takes (told before.frames) s.used (run_of s before.frames) rest (Ok Gives) new m b
        → Walks takes (told fs) r.used (run_of r fs) piece (Ok (record { used = new.used - r.used; ended = true })) new a b
    led_on_gives up took =
        let on : i + count ≡ new.used - r.used = omega (arith, up.0, used) in
        let some : 0 < count = omega (arith, up.0) in
        let within : count ≤ length rest = omega (arith, up.1) in
        let to : new.used ≡ s.used + count = omega (arith, up.0) in
        rw (← on) (
          within_rest piece i count some within,
          (
            omega (arith, some),
            (
              took.0,
              leads_to_value count took.0 (ap (λ (x : _). x.now) catalog) limits used (took.1 ∙ ap (λ (j : ℕ). gave took.0 j new) to)
                  before.leads,
              gave_behind takes (told fs) (told before.frames) new took.0 a m b before.went.hears took.2,
            ),
          ),
        )

    pub led_on_refused : (reason : Reason) → i ≤ length piece → Took takes (told before.frames) s.used (run_of s before.frames) rest (Err reason) new m b
        → Walks takes (told fs) r.used (run_of r fs) piece (Err (record { offset = new.used; reason = reason })) new a b
    led_on_refused reason small took = λ other.
        let there = rw (take-append-drop i piece, ← whole_rest piece i) at (before.leads.onward (drop i piece)) in
        rw (there, ← used, ← limits, ← catalog) (took other)

    -- what a method did behind them is what it did with them
    pub led_on_took : (result : Result Effect Reason) → i ≤ length piece → CountsOn s.used new.used rest
        → Took takes (told before.frames) s.used (run_of s before.frames) rest result new m b
        → Took takes (told fs) r.used (run_of r fs) piece result new a b
    led_on_took (Ok Goes) small up took = led_took (new.used - r.used) new a b (omega (arith, up.0, used)) (led_on_more up took)
    led_on_took (Ok Gives) small up took =
        let to : r.used + (new.used - r.used) ≡ new.used = omega (arith, up.0, used) in
        rw to at (led_on_gives up took).1.1
    led_on_took (Err reason) small up took = led_on_refused reason small took

  pub led_on_end : (i : ℕ) (s : BinaryWalk) (a b : V) → length piece ≤ i → LedOn i s a b
      → Walks takes (told fs) r.used (run_of r fs) piece (Ok (record { used = length piece; ended = false })) s a b
  led_on_end i s a b all before = (
    omega arith,
    (
      refl,
      (before.frames, leads_to_end r.catalog.now r.limits r.used (machine_of r fs) (machine_of s before.frames) piece i all before.leads, before.went),
    ),
  )

-- 3. Behind the octets of earlier pieces.

module _ {V : Type 0} (takes : V → Event → V → Type 0) (old new : BinaryWalk) (u : List ℕ) (s : List (Value × ℕ)) (fs : List Frame) (h : StandsFor old u s fs)
    (piece : List ℕ) (a b : V) (fine : new.failed ≡ None) (catalog : new.catalog ≡ old.catalog) (limits : new.limits ≡ old.limits) where
  ran_behind : (w : List ℕ) (given : List (Value × ℕ)) (gs : List Frame) → run_of old fs w ≡ record { given = given; now = Ok (machine_of new gs) }
      → run new.catalog.now new.limits 0 initial (u ++ w) ≡ record { given = s ++ given; now = Ok (machine_of new gs) }
  ran_behind w given gs e =
      let place : old.used ≡ 0 + length u = omega (arith, h.counted) in
      rw (catalog, limits, run-append old.catalog.now old.limits 0 old.used u w place initial, h.ran, e) refl

  walk_tells : (used : ℕ) (ended : Bool) → new.used ≡ old.used + used
      → Walks takes (told fs) old.used (run_of old fs) piece (Ok (record { used = used; ended = ended })) new a b
      → WalksOn takes Told u s (heard (told fs)) piece used ended new a b
  walk_tells used false counts w =
      let all : take used piece ≡ piece = take_all used piece (omega (arith, w.1.0)) in (
        heard (told w.1.1.0),
        (
          w.1.1.0,
          record {
            fine = fine;
            counted = omega (arith, h.counted, counts, length-append u (take used piece), length-take-le used piece w.0);
            holds = w.1.1.2.holds;
            ran = rw (append-nil s) at (ran_behind (take used piece) [] w.1.1.0 (rw all w.1.1.1));
          },
          refl,
        ),
        w.1.1.2.hears,
      )
  walk_tells used true counts w = (
    w.1.1.0,
    (
      [],
      record {
        fine = fine;
        counted = omega (arith, h.counted, counts, length-append u (take used piece), length-take-le used piece w.0);
        holds = w.1.1.2.holds;
        ran = rw (← h.counted) (ran_behind (take used piece) ((w.1.1.0, old.used + used) ∷ []) [] w.1.1.1);
      },
      refl,
    ),
    w.1.1.2.hears,
  )

-- what a walk that isn't refused leaves behind it
walk_leaves : (old new : BinaryWalk) (piece : List ℕ) (used : ℕ) (ended : Bool) → used ≤ length piece → (ended ≡ false → used ≡ length piece)
    → (ended ≡ true → 0 < used) → new.used ≡ old.used + used → new.failed ≡ None
    → StepsOver taken pending awaits failed old new piece used (if_ended ended)
walk_leaves old new piece used true within all some counts fine =
    let more = some refl in
    record {
      used = within;
      uses_all = λ e. cc;
      counts = counts;
      progress = λ h. omega arith;
      few_pending = omega arith;
      onward = λ h. cc;
      not_failed = fine;
      awaited = tt;
    }
walk_leaves old new piece used false within all some counts fine = record {
  used = within;
  uses_all = λ e. all refl;
  counts = counts;
  progress = λ h. cc;
  few_pending = omega arith;
  onward = λ h. cc;
  not_failed = fine;
  awaited = tt;
}

-- what an advance that isn't refused did: a value ended, or the piece did
module _ {V : Type 0} (takes : V → Event → V → Type 0) (old new : BinaryWalk) (piece : List ℕ) (w : Walked) (a b : V) where
  abbrev Went : ℕ → Bool → Type 0
  Went used ended = DoesWalk takes taken pending awaits failed Told (trace old.catalog.now old.limits) old new piece
      (Ok (record { used = used; ended = ended })) a b

  pub walk_goes : is_some old.failed ≡ false → w.used ≤ length piece → (w.ended ≡ false → w.used ≡ length piece) → (w.ended ≡ true → 0 < w.used)
      → new.used ≡ old.used + w.used → SameSetting old new
      → ((fs : List Frame) → Holds old fs → Walks takes (told fs) old.used (run_of old fs) piece (Ok w) new a b)
      → (w.ended ≡ true → Went w.used true) × (w.ended ≡ false → Went (length piece) false)
  walk_goes free within all some counts same does =
      let fine : old.failed ≡ None = not_failed old.failed free in
      let leaves = walk_leaves old new piece w.used w.ended within all some counts (same.failed ∙ fine) in
      let tells : (u : List ℕ) (s : List (Value × ℕ)) (es : List Event) → Told old u s es → WalksOn takes Told u s es piece w.used w.ended new a b =
      λ u s es h. rw h.2 (walk_tells takes old new u s h.0 h.1 piece a b (same.failed ∙ h.1.fine) same.catalog same.limits w.used w.ended counts
      (does h.0 h.1.holds)) in (
        went_to_end takes taken pending awaits failed Told (trace old.catalog.now old.limits) old new piece a b free w leaves tells,
        went_over takes taken pending awaits failed Told (trace old.catalog.now old.limits) old new piece a b free w leaves tells,
      )

-- what is refused is refused behind them
pub walk_answers : {V : Type 0} (takes : V → Event → V → Type 0) (old new : BinaryWalk) (u : List ℕ) (s : List (Value × ℕ)) (fs : List Frame) → StandsFor old u s fs
    → (piece : List ℕ) (refusal : Refusal) (a b : V) → Walks takes (told fs) old.used (run_of old fs) piece (Err refusal) new a b
    → Answers (trace old.catalog.now old.limits) u s piece (Err refusal)
walk_answers takes old new u s fs h piece refusal a b w = λ other.
    let place : old.used ≡ 0 + length u = omega (arith, h.counted) in
    let after = rw (h.ran, w other) at (run-append old.catalog.now old.limits 0 old.used u piece place initial) in
    (rw after (append-nil s), rw after refl)

-- 4. The end of the octets.

whole_same : (p : Phase) (n : Name) (fs : List Frame) → whole p (emptied n fs) ≡ whole p fs
whole_same Ready n [] = refl
whole_same _ n _ = refl

-- whole pieces are open in no container
none_open : (p : Phase) (fs : List Frame) → whole p fs ≡ true → fs ≡ []
none_open p [] e = refl
none_open Ready (f ∷ fs) e = absurd (false≢true e)
none_open _ (f ∷ fs) e = absurd (false≢true e)

module _ {V : Type 0} (takes : V → Event → V → Type 0) (r : BinaryWalk) (u : List ℕ) (s : List (Value × ℕ)) (es : List Event) (h : Told r u s es)
    (is_whole : Bool) (is : is_whole ≡ whole r.phase (shells r)) (a : V) where
  ends_there : is_whole ≡ whole r.phase h.0
  ends_there = rw (is, h.1.holds.containers) (whole_same r.phase (name_of r) h.0)

  ends_at : (trace r.catalog.now r.limits u).ends ≡ (if is_whole then Ok None else Err (record { offset = r.used; reason = Incomplete }))
  ends_at = rw (h.1.ran, ends_there) refl

  pub ends_whole : is_whole ≡ true → EndsOn takes (trace r.catalog.now r.limits u) es (Ok false) a a
  ends_whole e = (
    rw e at ends_at,
    hears_none takes es [] a (rw (h.2, none_open r.phase h.0 (rw e at (sym ends_there))) refl),
  )

  pub ends_cut : is_whole ≡ false → EndsOn takes (trace r.catalog.now r.limits u) es (Err (record { offset = r.used; reason = Incomplete })) a a
  ends_cut e = λ other. rw e at ends_at
