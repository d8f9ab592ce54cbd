-- Leaves of a list or an s-expression that lie whole in a piece, in a reader that holds no values.
use Rattle.std.proofs.Common.{◌≡◌, ℕ, ◌+◌, Some, None, List, ◌∷◌, ◌++◌, take, false, Ok, Err, refl, ap, ◌∙◌, arith}
use Rattle.std.specs.Prelude.{◌==◌, ◌≢◌}
use Rattle.ion_binary.specs.Names.{AreAround, BinaryWalk, Does, Event, Frame, Goes, HasItem, Hears, Holds, Memory, Outcome, Ready, Reason, TableFilter, TellsAs, WasTold, deliver, events_of, heard, items_end, judge_leaf, judged, open_containers, run_after, run_of, setting_of, spot_of, told}
use Rattle.ion_binary.specs.declared.walking.whole_leaves.WholeLeaf.{WholeLeaf}
use Rattle.ion_binary.specs.machine.EachOctet.{moved}
use Rattle.ion_binary.specs.machine.Frames as frames
use Rattle.ion_binary.specs.walking.Holds.{told_in}
use Rattle.ion_binary.specs.walking.Runs.{Took}
use Rattle.ion_visiting.specs.laws.Filters.{hears_none}
use Rattle.ion_binary.proofs.Beginning.{leaf_does}
use Rattle.ion_binary.proofs.Ending.{isnt_at}
use Rattle.ion_binary.proofs.Staying.{items_stay}
use Rattle.ion_binary.proofs.Tellings.{does_alone}
use Rattle.ion_binary.proofs.WalkRuns.{front_did}
use Rattle.ion_binary.proofs.WholeHeaders.{leaf_whole, moved_on}
use Rattle.ion_binary.proofs.WholeLeaves.{body_in}

module _ {V : Type 0} (takes : V → Event → V → Type 0) (r : BinaryWalk) (end : ℕ) (ready : r.phase ≡ Ready) (is : Some end ≡ items_end (open_containers r))
    (piece : List ℕ) (item : WholeLeaf) (has : HasItem r end piece item) where
  abbrev body : List ℕ
  body = body_in piece item

  -- it is judged
  abbrev ends : List Frame → Outcome
  ends fs = judged (setting_of r) (moved (spot_of r) (r.used + item.to)) fs (judge_leaf r.context item.leaf body)

  item_run : (fs : List Frame) → Holds r fs → run_of r fs (take item.to piece) ≡ run_after (r.used + item.to) (ends fs)
  item_run (frames.Items to x vs ∷ fs) h =
      let e : Some end ≡ Some to = is ∙ ap items_end h.containers in
      let same : end ≡ to = cc in
      let before = has.1 in
      leaf_whole r (frames.Items to x vs ∷ fs) h piece item has.0 ready refl (omega (arith, before, same))
  item_run _ h = let e : Some end ≡ None = is ∙ ap items_end h.containers in absurd cc

  items_around : (fs : List Frame) → Holds r fs → AreAround fs
  items_around (frames.Items to x vs ∷ fs) h = h.open_there
  items_around _ h = let e : Some end ≡ None = is ∙ ap items_end h.containers in absurd cc

  -- no name is told before it
  begun : (a : V) (fs : List Frame) → Holds (record r { used = r.used + item.to }) fs → AreAround fs
      → WasTold r.filter (told_in fs) × Hears takes (heard (told fs)) (heard (told_in fs)) a a
  begun a (frames.Items to x vs ∷ fs) h around =
      let es = told_in (frames.Items to x vs ∷ fs) in (h.was_told, hears_none takes (heard es) (heard es) a refl)
  begun a _ h around = let e : Some end ≡ None = is ∙ ap items_end h.containers in absurd cc

  module _ (g : TableFilter) (a b : V) where
    abbrev new : BinaryWalk
    new = record r { used = r.used + item.to; filter = g }

    item_does : TellsAs takes (judge_leaf r.context item.leaf body) r.filter g a b → (fs : List Frame) → Holds r fs → Does takes (told fs) (ends fs) (Ok Goes) new a b
    item_does said fs h =
        let mid = record r { used = r.used + item.to } in
        let before = has.1 in
        let test : (r.used + item.to == end) ≡ false = isnt_at (r.used + item.to) end (λ e. omega (arith, before, e)) in
        rw ready (leaf_does takes mid mid refl g a a b b (begun a) (Ok Goes) (record new { phase = Ready })
        (λ gs v k. does_alone takes (told_in gs ++ events_of v) (deliver (setting_of mid) (spot_of mid) gs v) (Ok Goes) (record new { phase = Ready }) b
        (items_stay new end test is gs v k))
        item.leaf body said fs (moved_on r fs h item.to) (items_around fs h))

    -- it is told, and the container goes on
    pub item_took : TellsAs takes (judge_leaf r.context item.leaf body) r.filter g a b → (fs : List Frame) → Holds r fs
        → Took takes (told fs) r.used (run_of r fs) piece (Ok Goes) new a b
    item_took said fs h =
        front_did takes r fs h piece new a b item.to (ends fs) has.0.within (item_run fs h) (Ok Goes) refl (item_does said fs h)

    -- or it is refused
    pub item_refused : (reason : Reason) → (reason ≢ Memory → judge_leaf r.context item.leaf body ≡ Err reason) → (fs : List Frame) → Holds r fs
        → Took takes (told fs) r.used (run_of r fs) piece (Err reason) new a b
    item_refused reason refused fs h =
        front_did takes r fs h piece new a b item.to (ends fs) has.0.within (item_run fs h) (Err reason) refl
        (λ other. rw (refused other) refl)
