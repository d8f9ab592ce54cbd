-- Each row of the format's table: where the last octet decides, the machine refuses it, for this reason or one with a smaller number.
use Rattle.std.proofs.Common.{◌≡◌, ◌≢◌, ◌⊎◌, inl, inr, ℕ, suc, ◌+◌, ◌-◌, ◌*◌, ◌^◌, ◌<◌, ◌≤◌, ◌||◌, ◌&&◌, ◌==◌, nat_lt, nat_le, le-ltb, lt-ltb, ne_eqb, List, [], ◌∷◌, ◌++◌, length, Result, Ok, Err, Option, Some, None, Bool, true, false, refl, ap, sym, ◌∙◌, subst, arith, length-append, append_assoc, eqb-true}
use Rattle.std.proofs.lemmas.Bool.{cond-true, cond-false, lt-leb, le-leb, cases_lt}
use Rattle.ion_refusals.specs.BinaryNames.{Binary, Catalog, Count, Decides, Depth, EndsHeader, EndsNumber, First, Follows, Form, Fourth, Frame, Headed, Id, InMarker, InNumber, IsContainer, IsFront, ItemTooLong, Known, LastOctet, Length, Limits, Malformed, Marker, Name, Named, Noted, Number, Open, Opening, Outcome, Pieces, Purpose, Ready, Reason, Refused, Scalar, Second, Size, Sized, Slot, Spot, TakesValue, Third, TooLarge, Value, Version, a_body, a_null, a_truth, annotation_came, annotations_past, at, bad_body, bad_empty_body, bad_table, begin, count_came, depth, descriptor_of, header_too_long, hollow, in_wrapper, initial, inner_marker, is_pad, is_table, is_wrapper, judge, judged, longer, marks, misfits, name_came, nameless, next, no_annotation, no_annotations, no_count, no_descriptor, no_length, no_marker, no_name, no_value, number_past, of_annotations, of_container, of_struct, of_wrapper, on_descriptor, on_number, opening_of, or_else, other_marker, other_version, past, past_container, reason_number, refuses, resolve, run, run-append, run_after, run_on, seven_bits, sized, spot_at, stray, system_slots, then_run, too_deep, too_large, turned, under, unending, unfit, unless, wrapper_unfilled}
use Rattle.ion_symtab.specs.laws.Reasons.{either}
use Rattle.ion_binary.specs.Deciding as deciding
use Rattle.ion_binary.specs.Deciding.{Container, Names, Reaches, no_fields, too_long}
use Rattle.ion_binary.specs.machine.EachOctet as machine
use Rattle.ion_binary.specs.machine.Frames as frames
use Rattle.ion_binary.specs.laws.reading.Complete.{begin_scalar, binary_run, body_run}
use Rattle.ion_binary.specs.laws.reading.Documents.{pieces_run}
use Rattle.ion_refusals.proofs.refusals.NumberRuns.{Holds, Least, Stopped, count_frames, goes_with, header_stops, leads_holds, length_match, number_holds, number_stops, ready, stops_with}
use Rattle.ion_binary.specs.laws.reading.OpenFrames.{InFrames, Match, count_in, id_in, items, length_in, name_in, named, names, noted, nothing_open, purpose_of, same_levels}
use Rattle.ion_binary.specs.laws.reading.OnlyReasons.{PlainOpening, opening_plain, some_if}
use Rattle.ion_refusals.proofs.refusals.OnlyReasons.{empty_hollow, hollow_only, hollow_some, late_name, pad_is, plain_small, resolve_only, stray_only}
use Rattle.ion_refusals.proofs.refusals.OpenRuns.{headed_run, open_run, takes_phase}

-- no reason, or one with a number up to that of f
abbrev Within : Reason → Option Reason → Type 0
Within f o = (e : Reason) → o ≡ Some e → reason_number e ≤ reason_number f

-- a reason, with a number up to that of f
abbrev Given : Reason → Option Reason → Type 0
Given f o = (e : Reason) × (o ≡ Some e) × (reason_number e ≤ reason_number f)

only_within : (f : Reason) (o : Option Reason) → 4 ≤ reason_number f → ((e : Reason) → o ≡ Some e → e ≡ Malformed) → Within f o
only_within f o big only e h = rw (only e h) big

or_within : (f : Reason) (a b : Option Reason) → Within f a → Within f b → Within f (or_else a b)
or_within f None b p q = q
or_within f (Some e) b p q = p

or_first : (f : Reason) (a b : Option Reason) → Given f a → Given f (or_else a b)
or_first f a b h = (h.0, ap (λ o. or_else o b) h.1, h.2)

or_then : (f : Reason) (a b : Option Reason) → Within f a → Given f b → Given f (or_else a b)
or_then f None b p h = h
or_then f (Some e) b p h = (e, refl, p e refl)

unless_given : (f : Reason) (o : Option Reason) (r : Outcome) → Given f o → Least f (unless o r)
unless_given f o r h = (h.0, ap (λ o. unless o r) h.1, h.2)

unless_then : (f : Reason) (o : Option Reason) (r : Outcome) → Within f o → Least f r → Least f (unless o r)
unless_then f None r p h = h
unless_then f (Some e) r p h = (e, refl, p e refl)

module _ (g : Catalog) (l : Limits) where
  stops_as : (u : List ℕ) (e : Reason) → (run g l 0 initial u).now ≡ Err (record { offset = length u; reason = e }) → Stopped g l u e
  stops_as u e h = record { reason = e; now = h; least = omega arith }

  module _ (c : List Slot) (start : ℕ) where
    -- a descriptor behind octets that stand open so
    at_descriptor : (ks : List Container) (u : List ℕ) (b : ℕ) (f : Reason) → Open g l c start ks u → TakesValue ks
        → ((fs : List Frame) → Match c fs ks → Least f (on_descriptor (under g l) (spot_at (length u + 1) start c) fs (opening_of b)))
        → Stopped g l (u ++ b ∷ []) f
    at_descriptor ks u b f o t h =
        let d = open_run g l c start ks u o in
        let r = h d.fs d.match in
        stops_with g l c start d.fs Ready u b r.0 f (subst (λ p. Holds g l c start d.fs p u) (ready g l c start ks t) (leads_holds g l c start ks u d)) r.1 r.2

    -- a body is refused because of where it stands, or because of its form
    sized_given : (used : ℕ) (fs : List Frame) (form : Form) (n : ℕ) (f : Reason) → 4 ≤ reason_number f → Given f (unfit l.item start fs form (used + n))
        → Least f (sized (under g l) (spot_at used start c) fs form n)
    sized_given used fs form n f big h = unless_then f (hollow form n) _ (only_within f _ big (hollow_only form n)) (unless_given f _ _ h)

    misfit_given : (fs : List Frame) (form : Form) (to : ℕ) (f : Reason) → 4 ≤ reason_number f → Given f (misfits l.item start fs form to)
        → Given f (unfit l.item start fs form to)
    misfit_given fs form to f big h = or_then f (stray fs form) _ (only_within f _ big (stray_only fs form)) (or_first f _ (nameless fs form) h)

    -- past its container
    past_misfits : (k : Container) (ks : List Container) (fs : List Frame) (form : Form) (to : ℕ) → Match c fs (k ∷ ks) → deciding.container_end k < to
        → misfits l.item start fs form to ≡ Some Malformed
    past_misfits _ _ _ form to (noted end ss fs ks m) h = cond-false _ _ _ (ne_eqb to end (λ e. omega arith))
    past_misfits _ _ _ form to _ h = cond-false _ _ _ (lt-leb to _ h)

    unfilled_misfits : (end : ℕ) (ks : List Container) (fs : List Frame) (form : Form) (to : ℕ) → Match c fs (Noted end ∷ ks) → to < end
        → misfits l.item start fs form to ≡ Some Malformed
    unfilled_misfits _ _ _ form to (noted end ss fs ks m) h = cond-false _ _ _ (ne_eqb to end (λ e. omega arith))

    -- a value of one octet, or a header: where it can't reach so far
    unfit_reaches : (ks : List Container) (pad : Bool) (to : ℕ) (u : List ℕ) (e : Reason) → Reaches g l c start ks pad to u → 4 ≤ reason_number e
        → ((fs : List Frame) (form : Form) → is_pad form ≡ pad → Match c fs ks → Given e (unfit l.item start fs form to)) → Stopped g l u e
    unfit_reaches ks _ _ _ e (a_null u b k o t i) big h = at_descriptor ks u b e o t (λ fs m. rw i (unless_given e _ _ (h fs Form.Struct refl m)))
    unfit_reaches ks _ _ _ e (a_truth u b k o t i) big h = at_descriptor ks u b e o t (λ fs m. rw i (unless_given e _ _ (h fs Form.Struct refl m)))
    unfit_reaches ks _ _ _ e (a_body u form n o) big h = header_stops g l c start ks form n u e o
        (λ fs m. sized_given (length u) fs form n e big (h fs form refl m))

    misfit_reaches : (ks : List Container) (pad : Bool) (to : ℕ) (u : List ℕ) → Reaches g l c start ks pad to u
        → ((fs : List Frame) (form : Form) → Match c fs ks → misfits l.item start fs form to ≡ Some Malformed) → Stopped g l u Malformed
    misfit_reaches ks pad to u o h = unfit_reaches ks pad to u Malformed o (omega arith)
        (λ fs form i m. misfit_given fs form to Malformed (omega arith) (Malformed, h fs form m, omega arith))

    -- at the top level, an item or its header is longer than the limit

    no_frames : (fs : List Frame) → Match c fs [] → fs ≡ []
    no_frames _ nothing_open = refl

    long : (form : Form) (to : ℕ) → is_pad form ≡ false → start + l.item < to → machine.too_long l.item start form to ≡ Some ItemTooLong
    long form to i h = cond-false _ _ _ (ap (λ b. b || nat_le to (start + l.item)) i ∙ lt-leb to (start + l.item) h)

    row_too_long : (to : ℕ) (u : List ℕ) → Reaches g l c start [] false to u → start + l.item < to → Stopped g l u ItemTooLong
    row_too_long to u o h = unfit_reaches [] false to u ItemTooLong o (omega arith)
        (λ fs form i m. rw (no_frames fs m) (ItemTooLong, ap (λ o. or_else o None) (long form to i h), omega arith))

    -- the annotations of a wrapper

    count_past : (spot : Spot) (fs : List Frame) (end n : ℕ) → end ≤ spot.used + n → count_came spot (frames.Annotated end [] ∷ fs) n ≡ refuses Malformed
    count_past spot fs end n h = either (λ r. r ≡ refuses Malformed) (n == 0) _ _ refl (cond-false _ _ _ (le-ltb (spot.used + n) end h))

    row_annotations_past : (end n : ℕ) (ks : List Container) (u : List ℕ) → EndsNumber g l c start ks (Count end) n u → end ≤ length u + n
        → Stopped g l u Malformed
    row_annotations_past end n ks u o h = number_stops g l c start ks (Count end) n u Malformed o (λ fs i.
        let f = count_frames g l c start ks end fs i in (Malformed, rw f.1 (count_past (spot_at (length u) start c) f.0 end n h), omega arith))

    row_no_annotation : (stop id : ℕ) (ks : List Container) (u : List ℕ) (e : Reason) → EndsNumber g l c start ks (Id stop) id u → resolve c id ≡ Err e
        → Stopped g l u e
    row_no_annotation stop id ks u e o h = number_stops g l c start ks (Id stop) id u e o (λ fs i. (e, bad ks stop fs i, omega arith))
      where
        bad : (ks : List Container) (stop : ℕ) (fs : List Frame) → InFrames c ks (Id stop) fs
            → annotation_came (spot_at (length u) start c) fs stop (resolve c id) ≡ refuses e
        bad _ _ _ (id_in ks end stop ss fs m) = rw h

    row_no_value : (end id : ℕ) (ks : List Container) (u : List ℕ) → EndsNumber g l c start (Names end ∷ ks) Name id u → end ≤ length u
        → Stopped g l u Malformed
    row_no_value end id ks u o h = number_stops g l c start (Names end ∷ ks) Name id u Malformed o
        (λ fs i. (Malformed, late (Names end ∷ ks) end ks fs refl i h, omega arith))
      where
        late : (js : List Container) (end : ℕ) (ks : List Container) (fs : List Frame) → js ≡ Names end ∷ ks → InFrames c js Name fs → end ≤ length u
            → name_came (spot_at (length u) start c) fs id ≡ refuses Malformed
        late _ end' _ _ e (name_in end ks fs (names _ ms hs _ m)) h = let q : end ≡ end' = cc in cond-false _ _ _ (le-ltb (length u) end (omega arith))

    -- numbers that go on

    reached : (used : ℕ) (fs : List Frame) (p : Purpose) (a b : ℕ) → 2 ^ 63 ≤ 128 * a + seven_bits b → on_number (under g l) (spot_at used start c) fs p a b
        ≡ refuses TooLarge
    reached used fs p a b h = go (cases_lt b 128)
      where
        go : (b < 128) ⊎ (128 ≤ b) → on_number (under g l) (spot_at used start c) fs p a b ≡ refuses TooLarge
        go (inl j) =
            let k : seven_bits b ≡ b = cond-false _ _ _ (lt-leb 128 b j) in
            cond-true _ _ _ (lt-ltb b 128 j) ∙ cond-false _ _ _ (le-ltb (128 * a + b) (2 ^ 63) (omega arith))
        go (inr j) =
            let k : seven_bits b ≡ b - 128 = cond-true _ _ _ (le-leb 128 b j) in
            cond-false _ _ _ (le-ltb b 128 j) ∙ cond-false _ _ _ (le-ltb (128 * a + (b - 128)) (2 ^ 63) (omega arith))

    row_too_large : (ks : List Container) (p : Number) (a : ℕ) (u : List ℕ) (b : ℕ) → deciding.InNumber g l c start ks p a u → 2 ^ 63 ≤ 128 * a + seven_bits b
        → Stopped g l (u ++ b ∷ []) TooLarge
    row_too_large ks p a u b o h =
        let i = number_holds g l c start ks p a u o in
        stops_with g l c start i.fs (InNumber (purpose_of p) a) u b TooLarge TooLarge i.holds (reached (length u + 1) i.fs (purpose_of p) a b h) (omega arith)

    -- it may not go on, or it is too large
    past_stops : (ks : List Container) (p : Number) (a : ℕ) (u : List ℕ) (b : ℕ) (e : Reason) → deciding.InNumber g l c start ks p a u → b < 128
        → 4 ≤ reason_number e
        → ((fs : List Frame) → InFrames c ks p fs → past l.item start fs (purpose_of p) (length u + 1) ≡ Some e) → Stopped g l (u ++ b ∷ []) e
    past_stops ks p a u b e o small big h =
        let i = number_holds g l c start ks p a u o in
        let r = either (Least e) (nat_lt (128 * a + b) (2 ^ 63)) (longer (under g l) (spot_at (length u + 1) start c) i.fs (purpose_of p) (128 * a + b)) _
        (unless_given e _ _ (e, h i.fs i.inside, omega arith)) (TooLarge, refl, omega arith) in
        stops_with g l c start i.fs (InNumber (purpose_of p) a) u b r.0 e i.holds (cond-true _ _ _ (lt-ltb b 128 small) ∙ r.1) r.2

    last_past : (ks : List Container) (p : Number) (fs : List Frame) (used last : ℕ) → InFrames c ks p fs → LastOctet g l c start ks p last → last ≤ used
        → past l.item start fs (purpose_of p) used ≡ Some Malformed
    last_past _ _ _ used last (length_in _ form _ nothing_open) r h = absurd (none [] (Length form) last refl refl r)
      where
        none : (ks : List Container) (p : Number) (last : ℕ) → ks ≡ [] → p ≡ Length form → LastOctet g l c start ks p last → ⊥
        none _ _ _ e q (of_container k ks f) = cc
        none _ _ _ e q _ = cc
    last_past _ _ _ used last (length_in _ form _ _) (of_container _ _ _) h = cond-false _ _ _ (le-ltb used _ h)
    last_past _ _ _ used last (name_in _ _ _ (names end ms fs ks m)) (of_struct _ _) h = cond-false _ _ _ (le-ltb used end h)
    last_past _ _ _ used last (count_in ks end fs m) (of_wrapper _ _) h = cond-false _ _ _ (le-ltb used end h)
    last_past _ _ _ used last (id_in ks end stop ss fs m) (of_annotations _ _) h = cond-false _ _ _ (le-ltb used stop h)

    -- descriptors

    marks_inside : (used : ℕ) (k : Container) (ks : List Container) (fs : List Frame) → Match c fs (k ∷ ks) → marks (spot_at used start c) fs
        ≡ refuses Malformed
    marks_inside used _ _ _ (items end x vs fs ks m) = refl
    marks_inside used _ _ _ _ = refl

    stray_in : (end : ℕ) (ks : List Container) (fs : List Frame) (form : Form) → Match c fs (Noted end ∷ ks) → (is_pad form || is_wrapper form) ≡ true
        → stray fs form ≡ Some Malformed
    stray_in _ _ _ form (noted end ss fs ks m) h = cond-true _ _ _ h

    stray_least : (used : ℕ) (fs : List Frame) (form : Form) (size : Size) → Given Malformed (stray fs form)
        → Least Malformed (on_descriptor (under g l) (spot_at used start c) fs (Sized form size))
    stray_least used fs form (Known n) h = sized_given used fs form n Malformed (omega arith) (or_first Malformed (stray fs form) _ h)
    stray_least used fs form Follows h = unless_given Malformed (stray fs form) _ h

    unending_last : (k : Container) (ks : List Container) (fs : List Frame) (form : Form) (used : ℕ) → Match c fs (k ∷ ks) → deciding.container_end k ≤ used
        → unending l.item start fs form used ≡ Some Malformed
    unending_last _ _ _ form used (noted end ss fs ks m) h = cond-false _ _ _ (le-ltb used end h)
    unending_last _ _ _ form used _ h = cond-false _ _ _ (le-ltb used _ h)

    -- inside of a container

    misfits_only : (k : Container) (ks : List Container) (fs : List Frame) (form : Form) (to : ℕ) → Match c fs (k ∷ ks) → (e : Reason)
        → misfits l.item start fs form to ≡ Some e → e ≡ Malformed
    misfits_only _ _ _ form to (noted end ss fs ks m) e h = sym (some_if (to == end) Malformed e h).1
    misfits_only _ _ _ form to _ e h = sym (some_if _ Malformed e h).1

    unending_only : (k : Container) (ks : List Container) (fs : List Frame) (form : Form) (used : ℕ) → Match c fs (k ∷ ks) → (e : Reason)
        → unending l.item start fs form used ≡ Some e → e ≡ Malformed
    unending_only _ _ _ form used (noted end ss fs ks m) e h = sym (some_if (nat_lt used end) Malformed e h).1
    unending_only _ _ _ form used _ e h = sym (some_if _ Malformed e h).1

    -- the id of a name

    no_symbol : (end id : ℕ) (ks : List Container) (fs : List Frame) (form : Form) (e : Reason) → Match c fs (Named end id ∷ ks) → resolve c id ≡ Err e
        → is_pad form ≡ false → nameless fs form ≡ Some e
    no_symbol _ _ _ _ form e (named end id ms fs ks m) h p = ap (λ r. nameless (frames.Named end ms r ∷ fs) form) h ∙ cond-false _ _ _ p

    row_no_name : (end id : ℕ) (ks : List Container) (u : List ℕ) (b : ℕ) (e : Reason) → Open g l c start (Named end id ∷ ks) u → resolve c id ≡ Err e
        → ((size : Size) → opening_of b ≢ Sized Form.Pad size) → Stopped g l (u ++ b ∷ []) e
    row_no_name end id ks u b e o h n = at_descriptor (Named end id ∷ ks) u b e o tt (λ fs m. by fs m (opening_of b) refl (opening_plain b))
      where
        big : 8 ≤ reason_number e
        big = (late_name e (resolve_only c id e h)).0

        no_pad : (form : Form) (size : Size) → opening_of b ≡ Sized form size → is_pad form ≡ false
        no_pad form size i = go (is_pad form) refl
          where
            go : (x : Bool) → is_pad form ≡ x → is_pad form ≡ false
            go true j = absurd (n size (i ∙ ap (λ y. Sized y size) (pad_is form j)))
            go false j = j

        unfit_given : (fs : List Frame) → Match c fs (Named end id ∷ ks) → (form : Form) (to : ℕ) → is_pad form ≡ false
            → Given e (unfit l.item start fs form to)
        unfit_given fs m form to p =
            or_then e (stray fs form) _ (only_within e _ (omega (arith, big)) (stray_only fs form))
            (or_then e (misfits l.item start fs form to) _ (only_within e _ (omega (arith, big)) (misfits_only (Named end id) ks fs form to m))
            (e, no_symbol end id ks fs form e m h p, omega arith))

        by : (fs : List Frame) → Match c fs (Named end id ∷ ks) → (d : Opening) → opening_of b ≡ d → PlainOpening d
            → Least e (on_descriptor (under g l) (spot_at (length u + 1) start c) fs d)
        by fs m (Refused x) i p = let s = plain_small x p in (x, refl, omega (arith, big))
        by fs m Marker i p = (Malformed, marks_inside (length u + 1) (Named end id) ks fs m, omega (arith, big))
        by fs m (Sized form (Known k)) i p = sized_given (length u + 1) fs form k e (omega (arith, big))
            (unfit_given fs m form (length u + 1 + k) (no_pad form (Known k) i))
        by fs m (Sized form Follows) i p =
            unless_then e (stray fs form) _ (only_within e _ (omega (arith, big)) (stray_only fs form))
            (unless_then e (unending l.item start fs form (length u + 1)) _
            (only_within e _ (omega (arith, big)) (unending_only (Named end id) ks fs form (length u + 1) m))
            (unless_given e (nameless fs form) _ (e, no_symbol end id ks fs form e m h (no_pad form Follows i), omega arith)))
        by fs m _ i p = unless_given e _ _ (unfit_given fs m Form.Struct (length u + 1) refl)

    -- depth

    -- the id of a name is refused for a reason that comes before `Depth`
    nameless_within : (fs : List Frame) (ks : List Container) (form : Form) → Match c fs ks → Within Depth (nameless fs form)
    nameless_within _ _ form (named end id ms fs ks m) e h = go (resolve c id) refl h
      where
        go : (r : Result (Option (List ℕ)) Reason) → resolve c id ≡ r → nameless (frames.Named end ms r ∷ fs) form ≡ Some e
            → reason_number e ≤ reason_number Depth
        go (Ok s) i q = absurd cc
        go (Err x) i q = let k = (late_name x (resolve_only c id x i)).1 in rw (← (some_if (is_pad form) x e q).1) (omega (arith, k))
    nameless_within _ _ form _ e h = absurd cc

    begin_deep : (used : ℕ) (fs : List Frame) (form : Form) (n : ℕ) → IsContainer form → l.depth ≤ machine.levels fs
        → Least Depth (begin (under g l) (spot_at used start c) fs form n)
    begin_deep used fs Form.Pad n i h = absurd i
    begin_deep used fs (Form.Scalar t) n i h = absurd i
    begin_deep used fs Form.Wrapper n i h = absurd i
    begin_deep used fs _ n i h = (Depth, cond-false _ _ _ (le-ltb (machine.levels fs) l.depth h), omega arith)

    row_too_deep : (ks : List Container) (form : Form) (n : ℕ) (u : List ℕ) → EndsHeader g l c start ks form n u → IsContainer form
        → l.depth ≤ deciding.container_levels ks → Stopped g l u Depth
    row_too_deep [] form n u o i h = let d = l.deep in absurd (omega (arith, d.0, h))
    row_too_deep (k ∷ ks) form n u o i h = header_stops g l c start (k ∷ ks) form n u Depth o (λ fs m.
        let s = same_levels c fs (k ∷ ks) m in
        let to = length u + n in
        unless_then Depth (hollow form n) _ (only_within Depth _ (omega arith) (hollow_only form n)) (unless_then Depth (unfit l.item start fs form to) _
        (or_within Depth (stray fs form) _ (only_within Depth _ (omega arith) (stray_only fs form))
        (or_within Depth (misfits l.item start fs form to) _ (only_within Depth _ (omega arith) (misfits_only k ks fs form to m))
        (nameless_within fs (k ∷ ks) form m)))
        (begin_deep (length u) fs form n i (omega (arith, s, h)))))

    -- bodies

    row_bad_empty_body : (ks : List Container) (t : Scalar) (u : List ℕ) (e : Reason) → EndsHeader g l c start ks (Form.Scalar t) 0 u → judge c t [] ≡ Err e
        → Stopped g l u e
    row_bad_empty_body ks t u e o h =
        let k = empty_hollow c t e h in
        subst (Stopped g l u) (sym k.1) (header_stops g l c start ks (Form.Scalar t) 0 u Malformed o
        (λ fs m. unless_given Malformed (hollow (Form.Scalar t) 0) _ (Malformed, k.0, omega arith)))

    row_bad_body : (end : ℕ) (ks : List Container) (t : Scalar) (front body : List ℕ) (e : Reason)
        → Headed l c start (Open g l c start ks) ks (Form.Scalar t) end front → end ≡ length front + length body → 0 < length body → judge c t body ≡ Err e
        → Stopped g l (front ++ body) e
    row_bad_body end ks t front [] e h i some j = absurd (omega arith)
    row_bad_body end ks t front (b ∷ bs) e h i some j =
        let body = b ∷ bs in
        let d = open_run g l c start ks h.before h.outer in
        let k = length-append front body in
        let ends = h.ends in
        let to = length (front ++ body) in
        let n : h.n ≡ suc (length bs) = omega arith in
        stops_as _ e
        (ap (λ x. (run g l 0 initial x).now) (ap (λ x. x ++ body) h.parts ∙ append_assoc h.before h.header body)
        ∙ (ap (λ x. x.now) (run-append g l 0 (length h.before) h.before (h.header ++ body) (omega arith) initial)
        ∙ (ap (λ x. (then_run x (λ n. run g l (length h.before) n (h.header ++ body))).now)
        (d.ran ∙ ap (λ p. record { given = d.given; now = Ok (at (spot_at (length h.before) start c) d.fs p) })
        (takes_phase g l c start ks (Form.Scalar t) h.begins))
        ∙ (ap (λ x. x.now) (headed_run g l c start ks d.fs _ end front body (Open g l c start ks) h (hollow_some (Form.Scalar t) h.n (omega arith)) d.match)
        ∙ (ap (λ x. (run_on (length front) (λ n. run g l (length front) n body)
        (begin (under g l) (spot_at (length front) start c) d.fs (Form.Scalar t) x)).now) n
        ∙ (ap (λ x. (run_on (length front) (λ n. run g l (length front) n body) x).now) (begin_scalar g l (spot_at (length front) start c) d.fs t (length bs))
        ∙ (ap (λ x. x.now) (body_run g l _ d.fs t (length bs) [] body to refl k)
        ∙ ap (λ x. (run_after to (judged (under g l) (spot_at to start c) d.fs x)).now) j)))))))

  row_bad_table : (u w : List ℕ) (s : List Value) (c : List Slot) (v : Value) (e : Reason) → Pieces g l u s c → Binary c w v → is_table v ≡ true
      → depth v ≤ l.depth → length w ≤ l.item → next c v g ≡ Err e → Stopped g l (u ++ w) e
  row_bad_table u w s c v e d b t n p q =
      let r = pieces_run g l u s c d in
      let k = length-append u w in
      let to = length (u ++ w) in
      stops_as _ e
      (ap (λ x. x.now) (run-append g l 0 (length u) u w (omega arith) initial) ∙ (ap (λ x. (then_run x (λ n. run g l (length u) n w)).now) r.ran
      ∙ ap (λ x. x.now) (binary_run g l _ [] to w v b (record { fitting = refl; named = refl }) k (λ i. omega arith) (omega arith)
      ∙ (ap (run_after to) (cond-true _ _ _ t) ∙ ap (λ x. run_after to (turned to x)) q))))

  -- markers

  record Marks (u : List ℕ) : Type 0 where
    c : List Slot
    start : ℕ
    holds : Holds g l c start [] (InMarker Second true) (u ++ 0xE0 ∷ [])

  front_marks : (u : List ℕ) → IsFront g l u → Marks u
  unfolding opening_of descriptor_of
  front_marks u (inl h) = record {
    c = system_slots;
    start = 0;
    holds = subst (λ x. Holds g l system_slots 0 [] (InMarker Second true) (x ++ 0xE0 ∷ [])) (sym h)
        (goes_with g l system_slots 0 [] [] (InMarker First true) (InMarker Second true) [] 0xE0 (record { given = []; ran = refl }) refl);
  }
  front_marks u (inr h) =
      let d = open_run g l h.1 (length u) [] u (h.0, h.2, refl) in
      record { c = h.1; start = length u; holds = top d.fs d.match (leads_holds g l h.1 (length u) [] u d) }
    where
      top : (fs : List Frame) → Match h.1 fs [] → Holds g l h.1 (length u) fs Ready u → Holds g l h.1 (length u) [] (InMarker Second true) (u ++ 0xE0 ∷ [])
      top _ nothing_open o = goes_with g l h.1 (length u) [] [] Ready (InMarker Second true) u 0xE0 o refl

  marker_stops : (u : List ℕ) (x y b : ℕ) (e : Reason) → IsFront g l u
      → ((used : ℕ) (c : List Slot) (start : ℕ) → machine.on_marker (spot_at used start c) [] Fourth ((true && (x == 1)) && (y == 0)) b ≡ refuses e)
      → Stopped g l (u ++ 0xE0 ∷ x ∷ y ∷ b ∷ []) e
  marker_stops u x y b e f h =
      let m = front_marks u f in
      let one = goes_with g l m.c m.start [] [] (InMarker Second true) (InMarker Third (true && (x == 1))) (u ++ 0xE0 ∷ []) x m.holds refl in
      let two = goes_with g l m.c m.start [] [] (InMarker Third (true && (x == 1))) (InMarker Fourth ((true && (x == 1)) && (y == 0)))
      ((u ++ 0xE0 ∷ []) ++ x ∷ []) y one refl in
      let all : (((u ++ 0xE0 ∷ []) ++ x ∷ []) ++ y ∷ []) ++ b ∷ [] ≡ u ++ 0xE0 ∷ x ∷ y ∷ b ∷ [] =
      append_assoc ((u ++ 0xE0 ∷ []) ++ x ∷ []) (y ∷ []) (b ∷ [])
      ∙ (append_assoc (u ++ 0xE0 ∷ []) (x ∷ []) (y ∷ b ∷ []) ∙ append_assoc u (0xE0 ∷ []) (x ∷ y ∷ b ∷ [])) in
      subst (λ w. Stopped g l w e) all
      (stops_with g l m.c m.start [] _ _ b e e two (h (length (((u ++ 0xE0 ∷ []) ++ x ∷ []) ++ y ∷ []) + 1) m.c m.start) (omega arith))

  both_good : (x y : ℕ) → ((x ≡ 1) × (y ≡ 0) → ⊥) → ((true && (x == 1)) && (y == 0)) ≡ false
  both_good x y h = go (x == 1) refl (y == 0) refl
    where
      go : (a : Bool) → (x == 1) ≡ a → (b : Bool) → (y == 0) ≡ b → ((true && a) && b) ≡ false
      go true i true j = absurd (h (eqb-true x 1 i, eqb-true y 0 j))
      go _ i _ j = refl

  -- each row refuses
  pub every_row : (u : List ℕ) (e : Reason) → Decides g l u e → Stopped g l u e
  every_row _ _ (no_marker b h) = stops_with g l system_slots 0 [] (InMarker First true) [] b Malformed Malformed (record { given = []; ran = refl })
      (cond-false _ _ _ (ne_eqb b 224 h)) (omega arith)
  every_row _ _ (other_marker u x y b f h) = marker_stops u x y b Malformed f (λ used c start. cond-false _ _ _ (ne_eqb b 234 h))
  every_row _ _ (other_version u x y f h) = marker_stops u x y 0xEA Version f (λ used c start. cond-false _ _ _ (both_good x y h))
  every_row _ _ (no_descriptor c start ks u b e o t i) = at_descriptor c start ks u b e o t (λ fs m. (e, rw i, omega arith))
  every_row _ _ (inner_marker c start k ks u b o t i) = at_descriptor c start (k ∷ ks) u b Malformed o t
      (λ fs m. (Malformed, rw i (marks_inside c start (length u + 1) k ks fs m), omega arith))
  every_row _ _ (in_wrapper c start end ks u b form size o i h) = at_descriptor c start (Noted end ∷ ks) u b Malformed o tt
      (λ fs m. rw i (stray_least c start (length u + 1) fs form size (Malformed, stray_in c start end ks fs form m h, omega arith)))
  every_row _ _ (too_large c start ks p a u b o h) = row_too_large c start ks p a u b o h
  every_row _ _ (past_container c start k ks pad to u o h) = misfit_reaches c start (k ∷ ks) pad to u o
      (λ fs form m. past_misfits c start k ks fs form to m h)
  every_row _ _ (wrapper_unfilled c start end ks pad to u o h) = misfit_reaches c start (Noted end ∷ ks) pad to u o
      (λ fs form m. unfilled_misfits c start end ks fs form to m h)
  every_row _ _ (no_fields c start ks u o) = header_stops g l c start ks Form.OrderedStruct 0 u Malformed o (λ fs m. (Malformed, refl, omega arith))
  every_row _ _ (too_deep c start ks form n u o i h) = row_too_deep c start ks form n u o i h
  every_row _ _ (too_long c start to u o h) = row_too_long c start to u o h
  every_row _ _ (header_too_long c start form a u b o i s h) = past_stops c start [] (Length form) a u b ItemTooLong o s (omega arith)
      (λ fs j. rw (no_frames c start fs (length_match g l c start [] form fs j)) (long c start form (length u + 1) i h))
  every_row _ _ (no_annotations c start end ks u o) = number_stops g l c start ks (Count end) 0 u Malformed o
      (λ fs i. let f = count_frames g l c start ks end fs i in (Malformed, rw f.1, omega arith))
  every_row _ _ (annotations_past c start end n ks u o h) = row_annotations_past c start end n ks u o h
  every_row _ _ (number_past c start last ks p a u b o s r h) = past_stops c start ks p a u b Malformed o s (omega arith)
      (λ fs i. last_past c start ks p fs (length u + 1) last i r h)
  every_row _ _ (no_length c start k ks u b form o t i h) = at_descriptor c start (k ∷ ks) u b Malformed o t (λ fs m.
      rw i (unless_then Malformed (stray fs form) _ (only_within Malformed _ (omega arith) (stray_only fs form))
      (unless_given Malformed (unending l.item start fs form (length u + 1)) _
      (Malformed, unending_last c start k ks fs form (length u + 1) m h, omega arith))))
  every_row _ _ (no_count c start ks u o) = header_stops g l c start ks Form.Wrapper 0 u Malformed o (λ fs m. (Malformed, refl, omega arith))
  every_row _ _ (no_value c start end id ks u o h) = row_no_value c start end id ks u o h
  every_row _ _ (no_name c start end id ks u b e o h n) = row_no_name c start end id ks u b e o h n
  every_row _ _ (no_annotation c start stop id ks u e o h) = row_no_annotation c start stop id ks u e o h
  every_row _ _ (bad_body c start end ks t front body e o i s h) = row_bad_body c start end ks t front body e o i s h
  every_row _ _ (bad_empty_body c start ks t u e o h) = row_bad_empty_body c start ks t u e o h
  every_row _ _ (bad_table u w s c v e d b t n p q) = row_bad_table u w s c v e d b t n p q
