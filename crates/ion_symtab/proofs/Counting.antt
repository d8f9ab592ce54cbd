-- Where the slots of segments stand, and the segment of a place.
use Rattle.std.proofs.Common.{◌≡◌, ℕ, ◌+◌, ◌-◌, ◌<◌, ◌≤◌, ◌⊎◌, inl, inr, List, [], ◌∷◌, ◌++◌, length, take, drop, get_or, slice_get, Some, ap, sym, ◌∙◌, arith, length-append, add-one}
use Rattle.std.proofs.lemmas.Grind.{flat_map-append}
use Rattle.std.proofs.lemmas.Bool.{cases_lt}
use Rattle.std.proofs.lemmas.List.{length-take, get_or-take, take-take, take-append-drop}
use Rattle.std.proofs.Math.Seq.{take-suc, take-length}
use Rattle.std.proofs.lemmas.List.Concat.{get_or-flat_map}
use Rattle.std.proofs.lemmas.List.Folds.{length-flat_map-take}
use Rattle.std.proofs.lemmas.Option.{slice_get-get_or}
use Rattle.ion_symtab.specs.Names.{Counts, Segment, StartsBehind, StartsBy, gap, segment_slots, slots_of}

-- how many slots the segments have
abbrev count_of : List Segment → ℕ
count_of segments = length (slots_of segments)

count_of-append : (xs ys : List Segment) → count_of (xs ++ ys) ≡ count_of xs + count_of ys
count_of-append xs ys = ap length (flat_map-append segment_slots xs ys) ∙ length-append (slots_of xs) (slots_of ys)

-- how many the first segments and one more have
count_of-more : (segments : List Segment) (k : ℕ) (s : Segment) → k < length segments → s ≡ get_or segments k s →
    count_of (take (k + 1) segments) ≡ count_of (take k segments) + length (segment_slots s)
count_of-more segments k s h e =
    rw (add-one, take-suc segments k s h, ← e)
    (count_of-append (take k segments) (s ∷ []) ∙ ap (λ n. count_of (take k segments) + n) (length-append (segment_slots s) [] ∙ omega arith))

count_of-whole : (segments : List Segment) (k : ℕ) → k < length segments → length segments ≤ k + 1 → count_of (take (k + 1) segments) ≡ count_of segments
count_of-whole segments k h w = let e : k + 1 ≡ length segments = omega arith in rw (e, take-length segments)

-- the first segments of those that are counted are counted
pub Counts-take : (end before n : ℕ) (segments : List Segment) → Counts segments end → before ≡ count_of (take n segments) → Counts (take n segments) before
Counts-take end before n segments counts e = record {
  before = λ k d h.
      let near : k < n = omega (arith, length-take n segments) in
      let there : k < length segments = omega (arith, length-take n segments) in
      rw (get_or-take n segments k d near, take-take k n segments (omega arith)) (counts.before k d there);
  ends = e;
  small = omega (arith, counts.ends, counts.small, count_of-append (take n segments) (drop n segments), ap count_of (take-append-drop n segments));
}

module _ (end : ℕ) (segments : List Segment) (k place : ℕ) (s : Segment) (counts : Counts segments end) (h : k < length segments) (e : s ≡ get_or segments k s) where
  starts_at : s.before ≡ count_of (take k segments)
  starts_at = ap (λ (x : Segment). x.before) e ∙ counts.before k s h

  -- the segment that begins at a place or before it
  pub begins_by : StartsBy place segments k → s.before ≤ place
  begins_by starts = omega (arith, starts s, ap (λ (x : Segment). x.before) e)

  -- a place is before the end of the last segment that begins at it or before it
  before_end : (k + 1 < length segments → StartsBehind place segments (k + 1)) → place < count_of segments →
      (k + 1 < length segments) ⊎ (length segments ≤ k + 1) → place < count_of (take (k + 1) segments)
  before_end last within (inl more) = omega (arith, last more s, counts.before (k + 1) s more)
  before_end last within (inr none) = omega (arith, count_of-whole segments k h none)

  -- a place of the segments lies within the last one that begins at it or before it
  pub place_within : s.before ≤ place → (k + 1 < length segments → StartsBehind place segments (k + 1)) → place < count_of segments →
      place - s.before < length (segment_slots s)
  place_within starts last within =
      omega (arith, starts_at, before_end last within (cases_lt (k + 1) (length segments)), count_of-more segments k s h e)

  -- at a place within a segment stands the slot that the segment has there
  pub slot_there : s.before ≤ place → place - s.before < length (segment_slots s) →
      slice_get (slots_of segments) place ≡ slice_get (segment_slots s) (place - s.before)
  slot_there starts within =
      let q : place ≡ count_of (take k segments) + (place - s.before) = omega (arith, starts_at) in
      let n : length (segment_slots s) ≡ length (segment_slots (get_or segments k s)) = ap (λ x. length (segment_slots x)) e in
      let j : place - s.before < length (segment_slots (get_or segments k s)) = omega arith in
      let w : place < count_of segments = omega (arith, starts_at, length-flat_map-take segment_slots segments k s h) in
      slice_get-get_or (slots_of segments) place gap w
      ∙ ap Some (ap (λ i. get_or (slots_of segments) i gap) q ∙ get_or-flat_map segment_slots segments k (place - s.before) s gap h j
      ∙ ap (λ x. get_or (segment_slots x) (place - s.before) gap) (sym e))
      ∙ sym (slice_get-get_or (segment_slots s) (place - s.before) gap within)
