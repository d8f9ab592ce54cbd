-- How long a run of octets of a class q is, by the masks of those that end it.
use Rattle.std.proofs.Common.{◌≡◌, ◌≢◌, ℕ, zero, suc, ◌+◌, ◌*◌, ◌<◌, ◌≤◌, Bool, true, false, not, cond, eqb, List, [], ◌∷◌, map, length, drop, refl, sym, ap, ap₂, ◌∙◌, arith}
use Rattle.std.proofs.lemmas.Simd.{chunk-drop, length-chunk, leading_from_mask_l, trailing_mask_l}
use Rattle.std.proofs.lemmas.List.Folds.{prefix_len-append, length-prefix_len}
use Rattle.std.proofs.lemmas.List.Sums.{prefix_len-le-length}
use Rattle.std.proofs.lemmas.Bool.{eq-eqb, ne_eqb}
use Rattle.std.specs.List.{prefix_len, take_while}
use lib.Lanes.{chunk, mask_l}
use lib.Count.{count_trailing_zeros}

-- the run from a place on is what one from further on is, and the octets between
abbrev pub GoesOnTo : (ℕ → Bool) → List ℕ → ℕ → Type 0
GoesOnTo q d i = (i ≤ length d) × (prefix_len q d ≡ i + prefix_len q (drop i d))

-- a run goes on to the place where it begins
pub at_start : (q : ℕ → Bool) (d : List ℕ) → GoesOnTo q d 0
at_start q d = (omega arith, omega arith)

module _ (q : ℕ → Bool) where
  same_run : (xs : List ℕ) → prefix_len q xs ≡ prefix_len (λ x. not (not (q x))) xs
  same_run [] = refl
  same_run (x ∷ xs) = ap₂ (λ b n. cond b (1 + n) 0) (twice (q x)) (same_run xs) where
    twice : (b : Bool) → b ≡ not (not b)
    twice true = refl
    twice false = refl

  -- where no octet ends the run, none is marked
  none_marked : (xs : List ℕ) → prefix_len q xs ≡ length xs → mask_l (map (λ x. not (q x)) xs) ≡ 0
  none_marked [] e = refl
  none_marked (x ∷ xs) e = by (q x) (prefix_len-le-length q xs) e (none_marked xs) where
    by : (b : Bool) → prefix_len q xs ≤ length xs → cond b (1 + prefix_len q xs) 0 ≡ suc (length xs)
        → (prefix_len q xs ≡ length xs → mask_l (map (λ y. not (q y)) xs) ≡ 0) → cond (not b) 1 0 + 2 * mask_l (map (λ y. not (q y)) xs) ≡ 0
    by true le f ih = let rest = ih (omega arith) in omega arith
    by false le f ih = absurd (omega arith)

  split : (d : List ℕ) (i n : ℕ) → prefix_len q (drop i d) ≡ cond (eqb (prefix_len q (chunk i n d)) (length (chunk i n d)))
      (length (chunk i n d) + prefix_len q (drop (i + n) d)) (prefix_len q (chunk i n d))
  split d i n = ap (prefix_len q) (chunk-drop i n d) ∙ prefix_len-append q (chunk i n d) (drop (i + n) d)

  through : (d : List ℕ) (i n : ℕ) → i + n ≤ length d → mask_l (map (λ x. not (q x)) (chunk i n d)) ≡ 0
      → prefix_len q (drop i d) ≡ n + prefix_len q (drop (i + n) d)
  through d i n room none =
      let c = chunk i n d in
      split d i n ∙ ap (λ b. cond b (length c + prefix_len q (drop (i + n) d)) (prefix_len q c))
      (eq-eqb _ _ (same_run c ∙ leading_from_mask_l (λ x. not (q x)) c none))
      ∙ ap (λ k. k + prefix_len q (drop (i + n) d)) (length-chunk i n d room)

  stops : (d : List ℕ) (i n : ℕ) → i + n ≤ length d → n ≤ 64 → 0 < mask_l (map (λ x. not (q x)) (chunk i n d))
      → prefix_len q (drop i d) ≡ count_trailing_zeros 64 (mask_l (map (λ x. not (q x)) (chunk i n d)))
  stops d i n room short some =
      let c = chunk i n d in
      split d i n ∙ ap (λ b. cond b (length c + prefix_len q (drop (i + n) d)) (prefix_len q c))
      (ne_eqb _ _ (λ (e : prefix_len q c ≡ length c). omega (arith, none_marked c e)))
      ∙ same_run c ∙ sym (trailing_mask_l (λ x. not (q x)) 64 c (omega (arith, length-chunk i n d room)) some)

  -- none of these lanes ends it
  pub goes_through : (d : List ℕ) (i n found : ℕ) → GoesOnTo q d i → i + n ≤ length d → found ≡ mask_l (map (λ x. not (q x)) (chunk i n d)) → found ≡ 0
      → GoesOnTo q d (i + n)
  goes_through d i n found on room e none = (room, on.1 ∙ (let more = through d i n room (sym e ∙ none) in omega arith))

  -- the first that is marked ends it
  pub stops_at : (d : List ℕ) (i n found : ℕ) → GoesOnTo q d i → i + n ≤ length d → n ≤ 64 → found ≡ mask_l (map (λ x. not (q x)) (chunk i n d)) → 0 < found
      → i + count_trailing_zeros 64 found ≡ length (take_while q d)
  stops_at d i n found on room short e some =
      let run = stops d i n room short (omega arith) ∙ ap (count_trailing_zeros 64) (sym e) in
      omega (arith, length-prefix_len q d)

  -- it stands among them
  pub stops_within : (d : List ℕ) (i n found : ℕ) → i + n ≤ length d → n ≤ 64 → found ≡ mask_l (map (λ x. not (q x)) (chunk i n d)) → 0 < found
      → count_trailing_zeros 64 found < n
  stops_within d i n found room short e some =
      let c = chunk i n d in
      let size = length-chunk i n d room in
      let is : prefix_len q c ≡ count_trailing_zeros 64 found =
      same_run c ∙ (sym (trailing_mask_l (λ x. not (q x)) 64 c (omega (arith, size)) (omega arith)) ∙ ap (count_trailing_zeros 64) (sym e)) in
      let few = prefix_len-le-length q c in
      let other : prefix_len q c ≢ length c = λ f. omega (arith, none_marked c f) in
      omega arith

  -- so it does from a place before
  earlier : (d : List ℕ) (j : ℕ) → j ≤ prefix_len q d → prefix_len q d ≡ j + prefix_len q (drop j d)
  earlier d zero le = omega arith
  earlier [] (suc j) le = absurd (omega arith)
  earlier (x ∷ d) (suc j) le = by (q x) (earlier d j) le where
    by : (b : Bool) → (j ≤ prefix_len q d → prefix_len q d ≡ j + prefix_len q (drop j d)) → suc j ≤ cond b (1 + prefix_len q d) 0
        → cond b (1 + prefix_len q d) 0 ≡ suc j + prefix_len q (drop j d)
    by true ih h = let rest = ih (omega arith) in omega arith
    by false ih h = absurd (omega arith)

  -- a run that goes on to a place goes on to each place before it
  pub from_before : (d : List ℕ) (i j : ℕ) → GoesOnTo q d i → j ≤ i → GoesOnTo q d j
  from_before d i j on le = (omega arith, earlier d j (omega arith))

  -- the run is all there is
  pub is_all : (d : List ℕ) (i : ℕ) → GoesOnTo q d i → i ≡ length d → i ≡ length (take_while q d)
  is_all d i on e = omega (arith, length-prefix_len q d, prefix_len-le-length q d)
