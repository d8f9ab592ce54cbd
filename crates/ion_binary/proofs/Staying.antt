-- Containers that go on behind a value in them, in a reader that holds no values.
use Rattle.std.proofs.Common.{◌≡◌, ℕ, ◌-◌, List, [], ◌∷◌, ◌++◌, length, reverse, false, Some, None, Ok, Err, refl, ap, sym, ◌∙◌, arith, length-append}
use Rattle.std.specs.Prelude.{◌==◌, slice_set}
use Rattle.std.proofs.lemmas.List.{reverse-append, reverse-reverse}
use Rattle.std.proofs.Math.Seq.{set-append_seam}
use Rattle.ion_binary.specs.Names.{BinaryWalk, Container, DoesAlone, Frame, Goes, Holds, InNumber, IsBehind, Purpose, Ready, Value, deliver, events_of, field_of, fields_end, heard, items_end, named_end, open_containers, proceed, setting_of, spot_of, told}
use Rattle.ion_binary.specs.machine.Frames as frames
use Rattle.ion_binary.specs.walking.Holds.{told_in}
use Rattle.ion_binary.proofs.Tellings.{field_told, item_told}

-- another one is put in the place of the last of a list
pub last_set : {A : Type 0} (xs ks : List A) (n : ℕ) (x y : A) → length xs ≡ n → reverse xs ≡ x ∷ ks → reverse (slice_set xs (n - 1) y) ≡ y ∷ ks
last_set xs ks n x y size e =
    let whole : xs ≡ reverse ks ++ x ∷ [] = sym (reverse-reverse xs) ∙ (ap reverse e ∙ reverse-append (x ∷ []) ks) in
    let last : n - 1 ≡ length (reverse ks) = omega (arith, size, ap length whole, length-append (reverse ks) (x ∷ [])) in
    rw (last, whole, set-append_seam (reverse ks) x [] y, reverse-append (reverse ks), reverse-reverse ks) refl

module _ (r : BinaryWalk) (end : ℕ) (test : (r.used == end) ≡ false) where
  -- a list or an s-expression goes on
  pub items_stay : Some end ≡ items_end (open_containers r) → (fs : List Frame) (v : Value) → IsBehind r fs v
      → DoesAlone (told_in fs ++ events_of v) (deliver (setting_of r) (spot_of r) fs v) (Ok Goes) (record r { phase = Ready })
  items_stay is (frames.Items to x vs ∷ fs) v h =
      let e : Some end ≡ Some to = is ∙ ap items_end h.containers in
      let same : to ≡ end = cc in
      let more = item_told to x fs vs v in (
        frames.Items to x (vs ++ v ∷ []) ∷ fs,
        rw (same, test) refl,
        record { containers = h.containers; named = tt; open_there = h.around; inside = tt; was_told = rw more at h.was_told },
        ap heard (sym more),
      )
  items_stay is _ v h = let e : Some end ≡ None = is ∙ ap items_end h.containers in absurd cc

  -- a struct goes on with the name of the next field
  module _ (mid : BinaryWalk) (kept : mid ≡ record r { frames = mid.frames })
      (there : (k : Container) (ks : List Container) → open_containers r ≡ k ∷ ks → open_containers mid ≡ Container.Fields end ∷ ks) where
    pub named_stay : Some end ≡ named_end (open_containers r) → (fs : List Frame) (v : Value) → IsBehind r fs v
        → DoesAlone (told_in fs ++ events_of v) (deliver (setting_of r) (spot_of r) fs v) (Ok Goes)
        (record mid { phase = InNumber Purpose.FieldName 0 })
    named_stay is (frames.Named to ms (Err n) ∷ fs) v h = absurd h.around
    named_stay is (frames.Named to ms (Ok n) ∷ fs) v h =
        let e : Some end ≡ Some to = is ∙ ap named_end h.containers in
        let same : to ≡ end = cc in
        let more = field_told to fs ms n v in (
          frames.Fields to (ms ++ field_of n v ∷ []) ∷ fs,
          rw (same, test, kept) refl,
          record {
            containers = rw same (there _ _ h.containers);
            named = tt;
            open_there = h.around;
            inside = tt;
            was_told = rw kept (rw more at h.was_told);
          },
          ap heard (sym more),
        )
    named_stay is _ v h = let e : Some end ≡ None = is ∙ ap named_end h.containers in absurd cc

  -- a list or an s-expression that began goes on, or one behind a pad
  pub items_proceed : Some end ≡ items_end (open_containers r) → (fs : List Frame) → Holds r fs
      → DoesAlone (told fs) (proceed (setting_of r) (spot_of r) fs) (Ok Goes) (record r { phase = Ready })
  items_proceed is (frames.Items to x vs ∷ fs) h =
      let e : Some end ≡ Some to = is ∙ ap items_end h.containers in
      let same : to ≡ end = cc in (
        frames.Items to x vs ∷ fs,
        rw (same, test) refl,
        record { containers = h.containers; named = tt; open_there = h.open_there; inside = tt; was_told = h.was_told },
        refl,
      )
  items_proceed is _ h = let e : Some end ≡ None = is ∙ ap items_end h.containers in absurd cc

  -- a struct does
  pub fields_proceed : Some end ≡ fields_end (open_containers r) → (fs : List Frame) → Holds r fs
      → DoesAlone (told fs) (proceed (setting_of r) (spot_of r) fs) (Ok Goes) (record r { phase = InNumber Purpose.FieldName 0 })
  fields_proceed is (frames.Fields to ms ∷ fs) h =
      let e : Some end ≡ Some to = is ∙ ap fields_end h.containers in
      let same : to ≡ end = cc in (
        frames.Fields to ms ∷ fs,
        rw (same, test) refl,
        record { containers = h.containers; named = tt; open_there = h.open_there; inside = tt; was_told = h.was_told },
        refl,
      )
  fields_proceed is _ h = let e : Some end ≡ None = is ∙ ap fields_end h.containers in absurd cc
