-- Wrappers with one annotation, in a reader that holds no values.
use Rattle.std.proofs.Common.{◌≡◌, ℕ, ◌+◌, ◌-◌, ◌<◌, List, [], ◌∷◌, ◌++◌, length, take, drop, Option, Ok, Err, Result, true, refl, ◌∙◌, arith}
use Rattle.std.specs.Prelude.{◌==◌, ◌≢◌}
use Rattle.std.proofs.lemmas.Grind.{common_steps}
use Rattle.std.proofs.lemmas.List.{length-take-le}
use Rattle.ion_binary.specs.Names.{AreAround, BinaryWalk, Container, Does, Effect, Event, Form, Frame, Goes, HasLeaf, HasNote, Hears, Holds, HoldsNoWrapper, InNumber, IsBehind, Memory, Opens, Outcome, Purpose, Ready, Reason, TableFilter, Tells, TellsAs, Value, WasTold, annotated, annotation, annotation_came, at, bare, deliver, events_of, heard, judge_leaf, judged, led, machine_of, open_containers, part, resolve, run_after, run_of, run_via, setting_of, spot_of, told}
use Rattle.ion_binary.specs.declared.walking.whole_leaves.WholeLeaf.{WholeLeaf}
use Rattle.ion_binary.specs.declared.walking.whole_wrappers.Note.{Note}
use Rattle.ion_binary.specs.machine.EachOctet.{moved}
use Rattle.ion_binary.specs.machine.Frames as frames
use Rattle.ion_binary.specs.walking.Holds.{told_in}
use Rattle.ion_binary.specs.walking.Runs.{Took}
use Rattle.ion_binary.specs.laws.reading.Complete.{count_goes, length_VarUInt, number_run}
use Rattle.ion_visiting.specs.laws.Filters.{hears_both}
use Rattle.ion_binary.proofs.Ending.{is_at, unwrapped}
use Rattle.ion_binary.proofs.Shells.{may_begin}
use Rattle.ion_binary.proofs.Tellings.{does_more, part_told, wrapped_told}
use Rattle.ion_binary.proofs.WalkRuns.{front_did}
use Rattle.ion_binary.proofs.WholeHeaders.{front_run, moved_on}
use Rattle.ion_binary.proofs.WholeLeaves.{behind_run, body_in, three_parts}

module _ (r : BinaryWalk) (piece : List ℕ) (front size : ℕ) (note : Note) (o : Opens r piece Form.Wrapper front size) (n : HasNote piece front size note) where
  abbrev pub stop : ℕ
  stop = r.used + note.to

  abbrev pub end : ℕ
  end = r.used + front + size

  -- the annotation has come
  abbrev pub came : List Frame → Outcome
  came fs = annotation_came (moved (spot_of r) stop) (frames.Annotated end [] ∷ fs) stop (resolve r.context note.id)

  abbrev header : List ℕ
  header = take front piece

  abbrev count : List ℕ
  count = take (note.id_at - front) (drop front piece)

  abbrev id : List ℕ
  id = take (note.to - note.id_at) (drop note.id_at piece)

  -- over it the machine comes to that
  pub note_run : (fs : List Frame) → Holds r fs → run_of r fs (take note.to piece) ≡ run_after stop (came fs)
  note_run fs h =
      let behind = n.behind in
      let few = n.few in
      let within = n.within in
      let inside = n.inside in
      let mid = r.used + front in
      let mid2 = r.used + note.id_at in
      let size1 : length header ≡ front = length-take-le front piece o.within in
      let size2 : length count ≡ note.id_at - front = grind (arith, common_steps) in
      let size3 : length id ≡ note.to - note.id_at = grind (arith, common_steps) in
      let some : 0 < note.to - note.id_at = omega (arith, length_VarUInt id note.id n.is, size3) in
      let ends : mid2 + (note.to - note.id_at) ≡ stop = omega arith in
      let fs2 = frames.Annotated end [] ∷ fs in
      rw (three_parts piece front note.id_at note.to behind few)
      (run_via r.catalog.now r.limits r.used mid _ (at (moved (spot_of r) mid) fs2 (InNumber Purpose.AnnotationsLength 0)) _ header (count ++ id)
      (omega (arith, size1)) (front_run r fs h piece front size Form.Wrapper o)
      (run_via r.catalog.now r.limits mid mid2 _ (at (moved (spot_of r) mid2) fs2 (InNumber (Purpose.Annotation stop) 0)) _ count id
      (omega (arith, size2))
      (rw (count_goes r.catalog.now r.limits (moved (spot_of r) mid2) fs end (note.to - note.id_at) [] some (omega arith), ends) at
      (number_run r.catalog.now r.limits (moved (spot_of r) mid) fs2 Purpose.AnnotationsLength count (note.to - note.id_at) mid2 n.count (omega (arith, size2))
      (omega arith)))
      (number_run r.catalog.now r.limits (moved (spot_of r) mid2) fs2 (Purpose.Annotation stop) id note.id stop n.is (omega (arith, size3)) (omega arith))))

  -- where its id has a symbol, the value comes
  noted_run : (s : Option (List ℕ)) → resolve r.context note.id ≡ Ok s → (fs : List Frame) → Holds r fs
      → run_of r fs (take note.to piece) ≡ led (at (moved (spot_of r) stop) (frames.Annotated end (s ∷ []) ∷ fs) Ready)
  noted_run s is fs h =
      let last : (stop == stop) ≡ true = is_at stop stop refl in
      rw (is, last) at (note_run fs h)

  module _ (leaf : WholeLeaf) (v : HasLeaf piece note.to leaf) (ends : r.used + leaf.to ≡ end) where
    -- the leaf is judged in the wrapper
    abbrev pub judged_noted : Option (List ℕ) → List Frame → Outcome
    judged_noted s fs =
        judged (setting_of r) (moved (spot_of r) (r.used + leaf.to)) (frames.Annotated end (s ∷ []) ∷ fs) (judge_leaf r.context leaf.leaf (body_in piece leaf))

    -- over the leaf, too, it comes to that
    pub noted_leaf_run : (s : Option (List ℕ)) → resolve r.context note.id ≡ Ok s → (fs : List Frame) → Holds r fs
        → run_of r fs (take leaf.to piece) ≡ run_after (r.used + leaf.to) (judged_noted s fs)
    noted_leaf_run s is fs h =
        behind_run piece note.to leaf v r.catalog.now r.limits r.used (machine_of r fs) (moved (spot_of r) stop) (frames.Annotated end (s ∷ []) ∷ fs)
        (r.used + leaf.to) (noted_run s is fs h) refl refl refl ends

  module _ {V : Type 0} (takes : V → Event → V → Type 0) (g0 g : TableFilter) (s : Option (List ℕ)) (is : resolve r.context note.id ≡ Ok s) (a m b : V)
      (begun : (fs : List Frame) → Holds (record r { used = stop }) fs → AreAround fs → WasTold g0 (told_in fs) × Hears takes (heard (told fs)) (heard (told_in fs)) a m)
      (tells : Tells takes (annotation s) g0 g m b) where
    may : (fs : List Frame) → Holds r fs → HoldsNoWrapper fs × AreAround fs
    may fs h = may_begin r fs h Form.Wrapper (r.used + front + size) o.fits

    -- the annotation is told
    noted_told : (fs : List Frame) → Holds r fs → WasTold g (told_in fs ++ annotation s ∷ [])
        × Hears takes (heard (told fs)) (heard (told_in fs ++ annotation s ∷ [])) a b
    noted_told fs h =
        let start = begun fs (moved_on r fs h note.to) (may fs h).1 in
        let i = tells (told_in fs) start.0 in (i.0, hears_both takes _ _ _ a m b start.1 i.1)

    -- the wrapper is open
    module _ (w : BinaryWalk) (pushes : open_containers w ≡ Container.Annotated end ∷ open_containers r) where
      abbrev pub opened : BinaryWalk
      opened = record r { used = stop; frames = w.frames; phase = Ready; filter = g }

      pub noted_took : (fs : List Frame) → Holds r fs → Took takes (told fs) r.used (run_of r fs) piece (Ok Goes) opened a b
      noted_took fs h =
          let around = may fs h in
          let i = noted_told fs h in
          let k : stop - r.used ≡ note.to = omega arith in (
            frames.Annotated end (s ∷ []) ∷ fs,
            rw k (noted_run s is fs h),
            record {
              holds = record { containers = rw (pushes, h.containers) refl; named = tt; open_there = around; inside = tt; was_told = i.0 };
              hears = i.1;
            },
          )

    -- the leaf is told, and the wrapper ends with it
    module _ (leaf : WholeLeaf) (v : HasLeaf piece note.to leaf) (ends : r.used + leaf.to ≡ end) (f : TableFilter) (new : BinaryWalk)
        (result : Result Effect Reason) (c d : V) (used : new.used ≡ r.used + leaf.to) where
      abbrev pub closed : BinaryWalk
      closed = record r { used = r.used + leaf.to; filter = f }

      noted_leaf_does : TellsAs takes (judge_leaf r.context leaf.leaf (body_in piece leaf)) g f b c
          → ((fs : List Frame) (x : Value) → IsBehind closed fs x
          → Does takes (told_in fs ++ events_of x) (deliver (setting_of closed) (spot_of closed) fs x) result new c d)
          → (fs : List Frame) → Holds r fs → Does takes (told fs) (judged_noted leaf v ends s fs) result new a d
      noted_leaf_does said ended fs h =
          let around = may fs h in
          let i = noted_told fs h in
          let p = said.0 in
          let es = told_in fs ++ annotation s ∷ [] in
          let more : es ++ part p ∷ [] ≡ told_in fs ++ events_of (annotated (s ∷ []) p) =
          part_told (frames.Annotated end (s ∷ []) ∷ fs) p said.2 ∙ wrapped_told end (s ∷ []) fs (bare p) refl in
          let k = rw more at (said.3 es i.0) in
          rw said.1 (does_more takes (told fs) (told_in fs ++ events_of (annotated (s ∷ []) p)) _ result new a c d (hears_both takes _ _ _ a b c i.1 k.1)
          (ended fs (annotated (s ∷ []) p)
          (record { containers = h.containers; around = around.1; bare = unwrapped fs (annotated (s ∷ []) p) around.0; was_told = k.0 })))

      pub noted_leaf_took : TellsAs takes (judge_leaf r.context leaf.leaf (body_in piece leaf)) g f b c
          → ((fs : List Frame) (x : Value) → IsBehind closed fs x
          → Does takes (told_in fs ++ events_of x) (deliver (setting_of closed) (spot_of closed) fs x) result new c d)
          → (fs : List Frame) → Holds r fs → Took takes (told fs) r.used (run_of r fs) piece result new a d
      noted_leaf_took said ended fs h =
          front_did takes r fs h piece new a d leaf.to (judged_noted leaf v ends s fs) v.within (noted_leaf_run leaf v ends s is fs h) result used
          (noted_leaf_does said ended fs h)

      -- or refused
      pub noted_leaf_refused : (reason : Reason) → (reason ≢ Memory → judge_leaf r.context leaf.leaf (body_in piece leaf) ≡ Err reason)
          → (fs : List Frame) → Holds r fs → Took takes (told fs) r.used (run_of r fs) piece (Err reason) new a d
      noted_leaf_refused reason refused fs h =
          front_did takes r fs h piece new a d leaf.to (judged_noted leaf v ends s fs) v.within (noted_leaf_run leaf v ends s is fs h) (Err reason) used
          (λ other. rw (refused other) refl)

  -- the id has no symbol
  pub note_refused : {V : Type 0} (takes : V → Event → V → Type 0) (new : BinaryWalk) (reason : Reason) (a b : V) → resolve r.context note.id ≡ Err reason → new.used ≡ stop
      → (fs : List Frame) → Holds r fs → Took takes (told fs) r.used (run_of r fs) piece (Err reason) new a b
  note_refused takes new reason a b is used fs h =
      front_did takes r fs h piece new a b note.to (came fs) n.within (note_run fs h) (Err reason) used
      (λ other. rw is refl)
