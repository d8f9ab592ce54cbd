-- Values and containers that end, and those that begin, in a reader that holds no values.
use Rattle.std.proofs.Common.{◌≡◌, ◌≢◌, ℕ, List, [], ◌∷◌, ◌++◌, reverse, Bool, true, false, Result, Ok, Err, refl, ap, sym, ◌∙◌, arith}
use Rattle.std.specs.Prelude.{◌==◌, if◌then◌else◌}
use Rattle.std.proofs.lemmas.List.{reverse-append}
use Rattle.std.proofs.lemmas.Bool.Decides.{nat_tests}
use Rattle.ion_binary.specs.Names.{AreAround, AreOpen, BinaryWalk, Bracket, Closes, Container, Does, DoesAlone, Effect, EndedIn, Event, Field, Frame, Goes, HoldsNoWrapper, IsBareIn, IsBehind, IsInside, IsNamedBy, ListOrSexp, Outcome, Payload, Phase, Reason, Setting, Spot, Tells, Value, WasTold, annotated, at, bare, closes, container_of, containers_of, deliver, events_of, field_of, goes, heard, machine_of, name_of, open_containers, proceed, setting_of, spot_of, told}
use Rattle.ion_visiting.specs.laws.Filters.{hears_none}
use Rattle.ion_binary.specs.machine.Frames as frames
use Rattle.ion_binary.specs.walking.Holds.{told_in}
use Rattle.ion_binary.proofs.Tellings.{closes_more, does_behind, does_more, field_told, item_told, wrapped_told}

-- 1. The same with other words for what comes.

pub does_same : {V : Type 0} (takes : V → Event → V → Type 0) (es : List Event) (o p : Outcome) (result : Result Effect Reason) (r : BinaryWalk) (a b : V)
    → o ≡ p → Does takes es p result r a b → Does takes es o result r a b
does_same takes es o p result r a b h d = rw h d

pub bare_in : (fs : List Frame) (p : Payload) → IsBareIn fs (bare p)
bare_in (frames.Annotated end ss ∷ fs) p = refl
bare_in _ p = tt

pub unwrapped : (fs : List Frame) (v : Value) → HoldsNoWrapper fs → IsBareIn fs v
unwrapped (frames.Annotated end ss ∷ fs) v h = absurd h
unwrapped _ v h = tt

-- the innermost container in memory is the last
pub pushed : (old new : List Container) (k : Container) → new ≡ old ++ k ∷ [] → reverse new ≡ k ∷ reverse old
pushed old new k e = rw e (reverse-append old (k ∷ []))

pub is_at : (m n : ℕ) → m ≡ n → (m == n) ≡ true
is_at m n h = grind (arith, nat_tests)

pub isnt_at : (m n : ℕ) → m ≢ n → (m == n) ≡ false
isnt_at m n h = grind (arith, nat_tests)

-- 2. A container that was the innermost one goes on or ends.

module _ {V : Type 0} (takes : V → Event → V → Type 0) where
  -- in these containers stands one that is this payload where it ends, and elsewhere goes on in this phase
  module _ (r : BinaryWalk) (end : ℕ) (fs : List Frame) (same : open_containers r ≡ containers_of fs) (around : AreAround fs) (f : Frame) (p : Payload)
      (phase : Phase) (is_either : proceed (setting_of r) (spot_of r) (f ∷ fs)
      ≡ (if r.used == end then deliver (setting_of r) (spot_of r) fs (bare p) else goes (at (spot_of r) (f ∷ fs) phase)))
      (was : WasTold r.filter (told (f ∷ fs))) where
    abbrev Closing : Result Bool Reason → BinaryWalk → V → V → Type 0
    Closing result new a b = Closes takes (told (f ∷ fs)) (proceed (setting_of r) (spot_of r) (f ∷ fs)) result new a b

    pub container_goes : (new : BinaryWalk) (a : V) → (r.used == end) ≡ false → machine_of new (f ∷ fs) ≡ at (spot_of r) (f ∷ fs) phase
        → open_containers new ≡ container_of f ∷ open_containers r → AreOpen (f ∷ fs) → IsNamedBy (name_of new) (f ∷ fs) → IsInside new.phase (f ∷ fs)
        → new.filter ≡ r.filter → Closing (Ok false) new a a
    container_goes new a test is pushed open_there named inside kept = (
      f ∷ fs,
      rw (is_either, test, is) refl,
      record {
        holds = record { containers = rw (pushed, same) refl; named = named; open_there = open_there; inside = inside; was_told = rw kept was };
        hears = hears_none takes _ _ a refl;
      },
    )

    pub container_ends : (new : BinaryWalk) (x : Bracket) (a b : V) → (r.used == end) ≡ true → setting_of new ≡ setting_of r → spot_of new ≡ spot_of r
        → open_containers new ≡ open_containers r → told (f ∷ fs) ++ closes x ∷ [] ≡ told_in fs ++ events_of (bare p)
        → Tells takes (closes x) r.filter new.filter a b → Closing (Ok true) new a b
    container_ends new x a b test setting spot left e tells =
        let h = tells (told (f ∷ fs)) was in (
          fs,
          bare p,
          rw (is_either, test, setting, spot) refl,
          record { behind = record { containers = left ∙ same; around = around; bare = bare_in fs p; was_told = rw e at h.0 }; hears = rw e at h.1 },
        )

  -- 3. The same behind a value.

  module _ (s : Setting) (t : Spot) (r : BinaryWalk) (k : Container) (result : Result Bool Reason) (new : BinaryWalk) (a b : V) where
    abbrev BehindValue : Type 0
    BehindValue = (f : Frame) (fs : List Frame) (v : Value) → k ≡ container_of f → open_containers r ≡ containers_of fs → AreAround (f ∷ fs)
        → IsBareIn (f ∷ fs) v → WasTold r.filter (told_in (f ∷ fs) ++ events_of v)
        → Closes takes (told_in (f ∷ fs) ++ events_of v) (deliver s t (f ∷ fs) v) result new a b

    pub items_behind : (end : ℕ) (x : ListOrSexp) → k ≡ Container.Items end x
        → ((fs : List Frame) (vs : List Value) → open_containers r ≡ containers_of fs → AreAround fs
        → WasTold r.filter (told_in (frames.Items end x vs ∷ fs))
        → Closes takes (told_in (frames.Items end x vs ∷ fs)) (proceed s t (frames.Items end x vs ∷ fs)) result new a b)
        → BehindValue
    items_behind end x is close (frames.Items to y vs) fs v e same around bare_there was =
        let ends : to ≡ end = cc in
        let listings : y ≡ x = cc in
        let more = item_told end x fs vs v in
        rw (ends, listings, more) (close fs (vs ++ v ∷ []) same around (rw (listings, more) at was))
    items_behind end x is close f fs v e same around bare_there was = absurd (let q : Container.Items end x ≡ container_of f = sym is ∙ e in cc)

    pub named_behind : (end : ℕ) → k ≡ Container.Named end
        → ((fs : List Frame) (ms : List Field) → open_containers r ≡ containers_of fs → AreAround fs
        → WasTold r.filter (told_in (frames.Fields end ms ∷ fs))
        → Closes takes (told_in (frames.Fields end ms ∷ fs)) (proceed s t (frames.Fields end ms ∷ fs)) result new a b)
        → BehindValue
    named_behind end is close (frames.Named to ms (Ok n)) fs v e same around bare_there was =
        let ends : to ≡ end = cc in
        let more = field_told end fs ms n v in
        rw (ends, more) (close fs (ms ++ field_of n v ∷ []) same around (rw more at was))
    named_behind end is close (frames.Named to ms (Err n)) fs v e same around bare_there was = absurd around
    named_behind end is close f fs v e same around bare_there was = absurd (let q : Container.Named end ≡ container_of f = sym is ∙ e in cc)

  -- a wrapper is a value
  pub wrapper_behind : (r new : BinaryWalk) (k : Container) (end : ℕ) (a : V) → k ≡ Container.Annotated end → new ≡ r
      → BehindValue (setting_of r) (spot_of r) r k (Ok true) new a a
  wrapper_behind r new k end a is kept (frames.Annotated to ss) fs v e same around bare_there was =
      let more = wrapped_told to ss fs v bare_there in
      rw kept (
        fs,
        annotated ss v.payload,
        refl,
        record {
          behind = record { containers = same; around = around.1; bare = unwrapped fs (annotated ss v.payload) around.0; was_told = rw more at was };
          hears = hears_none takes _ _ a (ap heard (sym more));
        },
      )
  wrapper_behind r new k end a is kept f fs v e same around bare_there was = absurd (let q : Container.Annotated end ≡ container_of f = sym is ∙ e in cc)

  -- 4. All containers that end with a value.

  module _ (o : Outcome) (es : List Event) (first : V) where
    -- what is left to do gives what the whole was to give
    abbrev pub IsLeft : BinaryWalk → V → Type 0
    IsLeft r b = (gs : List Frame) × (w : Value) × (o ≡ deliver (setting_of r) (spot_of r) gs w) × EndedIn takes es r gs w first b

    -- one container more
    pub left_behind : (r p : BinaryWalk) (k : Container) (result : Result Bool Reason) (new : BinaryWalk) (m b : V) → IsLeft r m
        → open_containers r ≡ k ∷ open_containers p → setting_of p ≡ setting_of r → spot_of p ≡ spot_of r → p.filter ≡ r.filter
        → BehindValue (setting_of p) (spot_of p) p k result new m b → Closes takes es o result new first b
    left_behind r p k result new m b left pops setting spot kept behind = inside left.0 left.2 left.3
      where
        inside : (gs : List Frame) → (o ≡ deliver (setting_of r) (spot_of r) gs left.1) → EndedIn takes es r gs left.1 first m → Closes takes es o result new first b
        inside [] e h = absurd (let q : k ∷ open_containers p ≡ [] = sym pops ∙ h.behind.containers in cc)
        inside (f ∷ gs) e h =
            let w = left.1 in
            let both : k ∷ open_containers p ≡ container_of f ∷ containers_of gs = sym pops ∙ h.behind.containers in
            let same : deliver (setting_of r) (spot_of r) (f ∷ gs) w ≡ deliver (setting_of p) (spot_of p) (f ∷ gs) w = cc in
            rw (e, same) (closes_more takes es (told_in (f ∷ gs) ++ events_of w) _ result new first m b h.hears
            (behind f gs w (cc) (cc) h.behind.around h.behind.bare (rw kept h.behind.was_told)))

    -- the innermost container that is left goes on
    pub left_goes : (r new : BinaryWalk) (m : V) → IsLeft r m
        → ((fs : List Frame) (v : Value) → IsBehind r fs v → DoesAlone (told_in fs ++ events_of v) (deliver (setting_of r) (spot_of r) fs v) (Ok Goes) new)
        → Does takes es o (Ok Goes) new first m
    left_goes r new m left stays = does_same takes es o _ (Ok Goes) new first m left.2
        (does_behind takes es (told_in left.0 ++ events_of left.1) _ (Ok Goes) new first m left.3.hears (stays left.0 left.1 left.3.behind))

    -- no container is left
    pub left_at_top : (r : BinaryWalk) (result : Result Effect Reason) (new : BinaryWalk) (m : V) → IsLeft r m → open_containers r ≡ []
        → ((v : Value) → WasTold r.filter (events_of v) → DoesAlone (events_of v) (deliver (setting_of r) (spot_of r) [] v) result new)
        → Does takes es o result new first m
    left_at_top r result new m left none top = inside left.0 left.2 left.3
      where
        inside : (gs : List Frame) → (o ≡ deliver (setting_of r) (spot_of r) gs left.1) → EndedIn takes es r gs left.1 first m → Does takes es o result new first m
        inside [] e h = does_same takes es o _ result new first m e (does_behind takes es (events_of left.1) _ result new first m h.hears (top left.1 h.behind.was_told))
        inside (f ∷ gs) e h = absurd (let q : containers_of (f ∷ gs) ≡ [] = sym h.behind.containers ∙ none in cc)

  -- 5. What comes behind a container that may have ended.

  pub ends_behind : (es : List Event) (o : Outcome) (mid new : BinaryWalk) (result : Result Effect Reason) (closed : Bool) (a m b : V) → closed ≡ true
      → ((fs : List Frame) (v : Value) → IsBehind mid fs v
      → Does takes (told_in fs ++ events_of v) (deliver (setting_of mid) (spot_of mid) fs v) result new m b)
      → Closes takes es o (Ok closed) mid a m → Does takes es o result new a b
  ends_behind es o mid new result closed a m b is ended d =
      let c = rw is at d in
      does_same takes es o _ result new a b c.2
      (does_more takes es (told_in c.0 ++ events_of c.1) _ result new a m b c.3.hears (ended c.0 c.1 c.3.behind))

  pub goes_behind : (es : List Event) (o : Outcome) (mid : BinaryWalk) (closed : Bool) (a m : V) → closed ≡ false → Closes takes es o (Ok closed) mid a m
      → Does takes es o (Ok Goes) mid a m
  goes_behind es o mid closed a m is d = rw is at d
