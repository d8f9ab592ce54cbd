-- Fields that lie whole in a piece, or whose names do, in a reader that holds no values.
use Rattle.std.proofs.Common.{◌≡◌, ◌≤◌, ℕ, ◌+◌, ◌-◌, Option, Some, None, List, [], ◌∷◌, ◌++◌, length, take, drop, Result, Ok, Err, refl, ap, sym, ◌∙◌, arith}
use Rattle.std.specs.Prelude.{◌≢◌}
use Rattle.std.proofs.lemmas.List.{length-take-le}
use Rattle.ion_binary.specs.Names.{BinaryWalk, Does, DoesAlone, Effect, Event, Field, Frame, Goes, HasField, HasName, Holds, IsTelling, IsWithin, Memory, Outcome, Purpose, Reason, TableFilter, Tells, TellsAs, bare, containers_of, field_of, fields_end, judge_leaf, judged, name, name_came, open_containers, part, proceed, resolve, run_after, run_of, setting_of, spot_of, told}
use Rattle.ion_binary.specs.declared.walking.whole_leaves.WholeLeaf.{WholeLeaf}
use Rattle.ion_binary.specs.machine.EachOctet.{moved}
use Rattle.ion_binary.specs.machine.Frames as frames
use Rattle.ion_binary.specs.walking.Holds.{told_in}
use Rattle.ion_binary.specs.walking.Runs.{Took}
use Rattle.ion_binary.specs.laws.reading.Complete.{name_run, number_run}
use Rattle.ion_binary.specs.laws.reading.Stands.{InRoom}
use Rattle.ion_binary.proofs.Ending.{isnt_at}
use Rattle.ion_binary.proofs.Staying.{fields_proceed}
use Rattle.ion_binary.proofs.Tellings.{does_alone, does_more, field_told, name_told, part_told}
use Rattle.ion_binary.proofs.WalkRuns.{LedOn, front_did, led_on_took}
use Rattle.ion_binary.proofs.WholeHeaders.{moved_on}
use Rattle.ion_binary.proofs.WholeLeaves.{behind_run, body_in}

in_room : (fs : List Frame) (to : ℕ) → IsWithin (containers_of fs) to → InRoom fs to
in_room (frames.Fields end ms ∷ fs) to h = h
in_room _ to h = absurd h

-- over a name the machine comes to it
came_run : (r : BinaryWalk) (fs : List Frame) → Holds r fs → (piece : List ℕ) (id size : ℕ) → HasName r piece id size
    → run_of r fs (take size piece) ≡ run_after (r.used + size) (name_came (moved (spot_of r) (r.used + size)) fs id)
came_run r fs h piece id size n =
    let count : length (take size piece) ≡ size = length-take-le size piece n.within in
    rw n.phase (number_run r.catalog.now r.limits (spot_of r) fs Purpose.FieldName (take size piece) id (r.used + size) n.is (omega (arith, count))
    (in_room fs (r.used + size) (rw h.containers at n.inside)))

module _ {V : Type 0} (takes : V → Event → V → Type 0) (r : BinaryWalk) (piece : List ℕ) (id named : ℕ) (n : HasName r piece id named) where
  -- a name alone
  pub name_took : (new : BinaryWalk) (result : Result Effect Reason) (a : V) → new.used ≡ r.used + named
      → ((fs : List Frame) → Holds (record r { used = r.used + named }) fs
      → DoesAlone (told fs) (name_came (moved (spot_of r) (r.used + named)) fs id) result new)
      → (fs : List Frame) → Holds r fs → Took takes (told fs) r.used (run_of r fs) piece result new a a
  name_took new result a used does fs h =
      let o = name_came (moved (spot_of r) (r.used + named)) fs id in
      front_did takes r fs h piece new a a named o n.within (came_run r fs h piece id named n) result used
      (does_alone takes (told fs) o result new a (does fs (moved_on r fs h named)))

  module _ (end : ℕ) (is : Some end ≡ fields_end (open_containers r)) (field : WholeLeaf) (has : HasField r end piece named field) (s : Option (List ℕ))
      (known : resolve r.context id ≡ Ok s) (g : TableFilter) (a m : V) (tells : Tells takes (name s) r.filter g a m) where
    abbrev to : ℕ
    to = r.used + field.to

    abbrev body : List ℕ
    body = body_in piece field

    -- the value is judged
    abbrev ends : List Field → List Frame → Outcome
    ends ms fs = judged (setting_of r) (moved (spot_of r) to) (frames.Named end ms (Ok s) ∷ fs) (judge_leaf r.context field.leaf body)

    field_run : (ms : List Field) (fs : List Frame) → run_of r (frames.Fields end ms ∷ fs) (take field.to piece) ≡ run_after to (ends ms fs)
    field_run ms fs =
        let count : length (take named piece) ≡ named = length-take-le named piece n.within in
        let mid = r.used + named in
        let inside = has.1 in
        let few = has.0.few in
        let behind = has.0.behind in
        rw n.phase (behind_run piece named field has.0 r.catalog.now r.limits r.used _ (moved (spot_of r) mid) (frames.Named end ms (Ok s) ∷ fs) to
        (name_run r.catalog.now r.limits (spot_of r) fs end ms (take named piece) id mid (Ok s) n.is known (omega (arith, count)) (omega arith))
        refl refl refl inside)

    -- a field's name is told, and behind it what its value does is done
    field_does : (new : BinaryWalk) (result : Result Effect Reason) (b : V) → new.used ≡ to
        → ((ms : List Field) (fs : List Frame) → IsTelling (record r { filter = g }) end ms s fs
        → Does takes (told_in (frames.Named end ms (Ok s) ∷ fs)) (ends ms fs) result new m b)
        → (fs : List Frame) → Holds r fs → Took takes (told fs) r.used (run_of r fs) piece result new a b
    field_does new result b used does (frames.Fields x ms ∷ fs) h =
        let same : Some x ≡ Some end = sym (is ∙ ap fields_end h.containers) in
        let e : x ≡ end = cc in
        let k = rw e at h in
        let before = told (frames.Fields end ms ∷ fs) in
        let i = rw (name_told end fs ms s) at (tells before k.was_told) in
        rw e (front_did takes r (frames.Fields end ms ∷ fs) k piece new a b field.to (ends ms fs) has.0.within (field_run ms fs) result used
        (does_more takes before (told_in (frames.Named end ms (Ok s) ∷ fs)) (ends ms fs) result new a m b i.1
        (does ms fs (record { containers = k.containers; around = k.open_there; phase = n.phase; was_told = i.0 }))))
    field_does new result b used does _ h = let e : Some end ≡ None = is ∙ ap fields_end h.containers in absurd cc

    -- the value is told, and the struct goes on or ends
    pub field_took : (f : TableFilter) (v : V) → TellsAs takes (judge_leaf r.context field.leaf body) g f m v
        → (new : BinaryWalk) (result : Result Effect Reason) (b : V) → new.used ≡ to
        → ((gs : List Frame) → Holds (record r { used = to; filter = f }) gs
        → Does takes (told gs) (proceed (setting_of r) (moved (spot_of r) to) gs) result new v b)
        → (fs : List Frame) → Holds r fs → Took takes (told fs) r.used (run_of r fs) piece result new a b
    field_took f v said new result b used goes_on = field_does new result b used (λ ms fs h.
        let before = told_in (frames.Named end ms (Ok s) ∷ fs) in
        let now = frames.Fields end (ms ++ field_of s (bare said.0) ∷ []) ∷ fs in
        let more : before ++ part said.0 ∷ [] ≡ told now = part_told (frames.Named end ms (Ok s) ∷ fs) said.0 said.2 ∙ field_told end fs ms s (bare said.0) in
        let i = rw more at (said.3 before h.was_told) in
        rw said.1 (does_more takes before (told now) _ result new m v b i.1
        (goes_on now (record { containers = h.containers; named = tt; open_there = h.around; inside = rw h.phase tt; was_told = i.0 }))))

    -- it goes on with the next name
    pub field_goes : (f : TableFilter) (v : V) → TellsAs takes (judge_leaf r.context field.leaf body) g f m v → to ≢ end
        → (fs : List Frame) → Holds r fs → Took takes (told fs) r.used (run_of r fs) piece (Ok Goes) (record r { used = to; filter = f }) a v
    field_goes f v said other =
        let new = record r { used = to; filter = f } in
        field_took f v said new (Ok Goes) v refl (λ gs h.
        let o = proceed (setting_of r) (moved (spot_of r) to) gs in
        does_alone takes (told gs) o (Ok Goes) new v
        (rw n.phase (fields_proceed new end (isnt_at to end other) is gs h)))

    -- or the value is refused
    pub field_refused : (new : BinaryWalk) (b : V) (reason : Reason) → new.used ≡ to
        → (reason ≢ Memory → judge_leaf r.context field.leaf body ≡ Err reason)
        → (fs : List Frame) → Holds r fs → Took takes (told fs) r.used (run_of r fs) piece (Err reason) new a b
    field_refused new b reason used refused = field_does new (Err reason) b used (λ ms fs h other. rw (refused other) refl)

-- a name alone, behind other octets of a piece
pub name_behind : {V : Type 0} (takes : V → Event → V → Type 0) (r : BinaryWalk) (fs : List Frame) (piece : List ℕ) (i : ℕ) (s : BinaryWalk) (a m : V)
    → s.catalog ≡ r.catalog → s.limits ≡ r.limits → s.used ≡ r.used + i → LedOn takes r fs piece i s a m → i ≤ length piece
    → (id named : ℕ) → HasName s (take (length piece - i) (drop i piece)) id named → (new : BinaryWalk) (result : Result Effect Reason)
    → new.used ≡ s.used + named
    → ((gs : List Frame) → Holds (record s { used = s.used + named }) gs
    → DoesAlone (told gs) (name_came (moved (spot_of s) (s.used + named)) gs id) result new)
    → Took takes (told fs) r.used (run_of r fs) piece result new a m
name_behind takes r fs piece i s a m catalog limits used before few id named n new result to does =
    let some = n.some in
    let within = n.within in
    led_on_took takes r fs piece i s a m m catalog limits used before new result few (omega (arith, some, to), omega (arith, within, to))
    (name_took takes s (take (length piece - i) (drop i piece)) id named n new result m to does before.frames before.went.holds)
