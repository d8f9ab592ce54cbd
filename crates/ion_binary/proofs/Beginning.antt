-- Values that begin in a reader that holds no values, and what only moves it on.
use Rattle.std.proofs.Common.{◌≡◌, ℕ, List, [], ◌∷◌, ◌++◌, Bool, true, Option, Result, Ok, Err, refl, ap, sym, ◌∙◌}
use Rattle.std.proofs.lemmas.List.{append-nil}
use Rattle.std.proofs.lemmas.Bool.{false≢true}
use Rattle.ion_binary.specs.Names.{AreAround, AreOpen, BinaryWalk, Bracket, Container, Does, DoesAlone, Effect, Event, Fourth, Frame, Goes, Hears, Holds, HoldsNoWrapper, IsBehind, IsInside, IsNamedBy, IsPart, IsTop, Mark, Outcome, Payload, Ready, Reason, Slot, TableFilter, Tells, TellsAs, Value, WasTold, bare, container_of, deliver, events_of, goes, heard, is_named, judge_leaf, judged, machine_of, name, name_of, on_marker, open_containers, part, proceed, setting_of, spot_of, system_slots, told}
use Rattle.ion_visiting.specs.Events.{opens}
use Rattle.ion_visiting.specs.laws.Filters.{hears_both}
use Rattle.ion_binary.specs.declared.walking.whole_leaves.Leaf.{Leaf}
use Rattle.ion_binary.specs.machine.Frames as frames
use Rattle.ion_binary.specs.walking.Holds.{told_in}
use Rattle.ion_binary.proofs.Ending.{bare_in}
use Rattle.ion_binary.proofs.Tellings.{does_more, name_told, part_told}

-- 1. Readers that only move on.

pub stays : (r new : BinaryWalk) (fs : List Frame) → open_containers new ≡ open_containers r → name_of new ≡ name_of r → new.filter ≡ r.filter
    → IsInside new.phase fs → Holds r fs → Holds new fs
stays r new fs same named kept inside h =
    record { containers = same ∙ h.containers; named = rw named h.named; open_there = h.open_there; inside = inside; was_told = rw kept h.was_told }

pub goes_alone : (r new : BinaryWalk) (fs : List Frame) (o : Outcome) → o ≡ goes (machine_of new fs) → open_containers new ≡ open_containers r
    → name_of new ≡ name_of r → new.filter ≡ r.filter → IsInside new.phase fs → Holds r fs → DoesAlone (told fs) o (Ok Goes) new
goes_alone r new fs o is same named kept inside h = (fs, is, stays r new fs same named kept inside h, refl)

-- 2. The name of the field whose value begins.

module _ {V : Type 0} (takes : V → Event → V → Type 0) where
  pub value_named : (r : BinaryWalk) (g : TableFilter) (s : Option (List ℕ)) (a b : V) → is_named (open_containers r) ≡ true → name_of r ≡ Ok s
      → Tells takes (name s) r.filter g a b
      → (fs : List Frame) → Holds r fs → AreAround fs → WasTold g (told_in fs) × Hears takes (heard (told fs)) (heard (told_in fs)) a b
  value_named r g s a b some is tells (frames.Named end ms (Err e) ∷ fs) h around = absurd around
  value_named r g s a b some is tells (frames.Named end ms (Ok t) ∷ fs) h around =
      let one : Ok s ≡ Ok t = sym is ∙ sym h.named in
      let same : s ≡ t = cc in
      rw (same, name_told end fs ms t) at (tells (told (frames.Named end ms (Ok t) ∷ fs)) h.was_told)
  value_named r g s a b some is tells _ h around = absurd (false≢true (sym (ap is_named h.containers) ∙ some))

-- 3. Values and containers whose front was told.

module _ {V : Type 0} (takes : V → Event → V → Type 0) (r : BinaryWalk) (g : TableFilter) (fs : List Frame) (h : Holds r fs) (around : AreAround fs) (a m : V)
    (begun : WasTold g (told_in fs) × Hears takes (heard (told fs)) (heard (told_in fs)) a m) where
  -- a value with no value in it
  pub part_does : (mid new : BinaryWalk) (p : Payload) (o : Outcome) (result : Result Effect Reason) (n b : V) → IsPart p
      → Tells takes (part p) g mid.filter m n
      → open_containers mid ≡ open_containers r → o ≡ deliver (setting_of mid) (spot_of mid) fs (bare p)
      → ((fs : List Frame) (v : Value) → IsBehind mid fs v → Does takes (told_in fs ++ events_of v) (deliver (setting_of mid) (spot_of mid) fs v) result new n b)
      → Does takes (told fs) o result new a b
  part_does mid new p o result n b leaf tells same is ends =
      let i = rw (part_told fs p leaf) at (tells (told_in fs) begun.0) in
      rw is (does_more takes (told fs) (told_in fs ++ events_of (bare p)) _ result new a n b (hears_both takes _ _ _ a m n begun.1 i.1)
      (ends fs (bare p) (record { containers = same ∙ h.containers; around = around; bare = bare_in fs p; was_told = i.0 })))

  -- a container
  pub front_does : (mid new : BinaryWalk) (f : Frame) (x : Bracket) (o : Outcome) (result : Result Effect Reason) (n b : V)
      → Tells takes (opens x) g mid.filter m n
      → told (f ∷ fs) ≡ told_in fs ++ opens x ∷ [] → AreAround (f ∷ fs) → AreOpen (f ∷ fs) → IsNamedBy (name_of mid) (f ∷ fs) → IsInside mid.phase (f ∷ fs)
      → open_containers mid ≡ container_of f ∷ open_containers r
      → o ≡ proceed (setting_of mid) (spot_of mid) (f ∷ fs)
      → ((gs : List Frame) → Holds mid gs → Does takes (told gs) (proceed (setting_of mid) (spot_of mid) gs) result new n b)
      → Does takes (told fs) o result new a b
  front_does mid new f x o result n b tells e inner opened named inside pushed is goes_on =
      let i = rw (← e) at (tells (told_in fs) begun.0) in
      rw is (does_more takes (told fs) (told (f ∷ fs)) _ result new a n b (hears_both takes _ _ _ a m n begun.1 i.1)
      (goes_on (f ∷ fs) (record { containers = rw (pushed, h.containers) refl; named = named; open_there = opened; inside = inside; was_told = i.0 })))

  -- a wrapper
  pub wrapper_does : (new : BinaryWalk) (end : ℕ) (o : Outcome) → HoldsNoWrapper fs → new.filter ≡ g
      → open_containers new ≡ Container.Annotated end ∷ open_containers r → IsInside new.phase (frames.Annotated end [] ∷ fs)
      → o ≡ goes (machine_of new (frames.Annotated end [] ∷ fs)) → Does takes (told fs) o (Ok Goes) new a m
  wrapper_does new end o bare_there kept pushed inside is =
      let e = append-nil (told_in fs) in (
        frames.Annotated end [] ∷ fs,
        is,
        record {
          holds = record {
            containers = rw (pushed, h.containers) refl;
            named = tt;
            open_there = (bare_there, around);
            inside = inside;
            was_told = rw (kept, e) begun.0;
          };
          hears = rw e begun.1;
        },
      )

-- 4. The same where a reader changed but for its filter.

module _ {V : Type 0} (takes : V → Event → V → Type 0) (r s : BinaryWalk) (kept : s ≡ record r { filter = s.filter }) (g : TableFilter) (a m n b : V)
    (begun : (fs : List Frame) → Holds r fs → AreAround fs → WasTold s.filter (told_in fs) × Hears takes (heard (told fs)) (heard (told_in fs)) a m)
    (result : Result Effect Reason) (new : BinaryWalk)
    (ends : (fs : List Frame) (v : Value) → IsBehind (record s { filter = g }) fs v
    → Does takes (told_in fs ++ events_of v) (deliver (setting_of s) (spot_of s) fs v) result new n b) where
  pub whole_does : (p : Payload) → IsPart p
      → Tells takes (part p) s.filter g m n
      → (fs : List Frame) → Holds r fs → AreAround fs → Does takes (told fs) (deliver (setting_of r) (spot_of r) fs (bare p)) result new a b
  whole_does p leaf tells fs h around =
      part_does takes r s.filter fs h around a m (begun fs h around) (record s { filter = g }) new p _ result n b leaf tells (rw kept refl) (rw kept refl) ends

  -- a leaf
  pub leaf_does : (leaf : Leaf) (body : List ℕ)
      → TellsAs takes (judge_leaf s.context leaf body) s.filter g m n → (fs : List Frame) → Holds r fs → AreAround fs
      → Does takes (told fs) (judged (setting_of r) (spot_of r) fs (judge_leaf r.context leaf body)) result new a b
  leaf_does leaf body said fs h around = let is = rw kept at said.1 in rw is (whole_does said.0 said.2 said.3 fs h around)

-- 5. A version marker ends.

pub marker_ends : (r : BinaryWalk) (mark : Mark) (good : Bool) (octet : ℕ) (d : List Slot) → mark ≡ Fourth → octet ≡ 234 → good ≡ true → d ≡ system_slots
    → (fs : List Frame) → Holds r fs → IsTop fs
    → DoesAlone (told fs) (on_marker (spot_of r) fs mark good octet) (Ok Goes) (record r { start = r.used; context = d; phase = Ready })
marker_ends r mark good octet d is last fine reset [] h top = (
  [],
  rw (is, last, fine, reset) refl,
  record { containers = h.containers; named = tt; open_there = tt; inside = tt; was_told = h.was_told },
  refl,
)
marker_ends r mark good octet d is last fine reset (f ∷ fs) h top = absurd top
