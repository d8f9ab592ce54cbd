-- A mask that is computed lane by lane is that of a class of octets, if it is at each octet.
use Rattle.std.proofs.Common.{◌≡◌, ℕ, ◌+◌, ◌-◌, ◌%◌, ◌^◌, ◌≤◌, ltb, leb, eqb, Bool, not, cond, T, List, [], ◌∷◌, map, length, refl, ap, ap₂, ◌∙◌, arith, w8, Fits}
use Rattle.std.proofs.lemmas.Simd.{mask_l-mod}
use Rattle.std.proofs.lemmas.List.{length-map}
use lib.Lanes.{mask_l, top, Each1}
use Rattle.ion_tokens.proofs.masks.ByOctet.{holds_below, holds_at, same, same_is}

-- what the operations of a lane say where they hold
abbrev pub is : ℕ → ℕ → ℕ
is a b = cond (eqb a b) 255 0

-- in a lane, all bits where the octets differ, none where they are the same
abbrev pub isnt : ℕ → ℕ → ℕ
isnt a b = cond (not (eqb a b)) 255 0

-- in a lane, all bits where the first octet is less, else none
abbrev pub below : ℕ → ℕ → ℕ
below a b = cond (ltb a b) 255 0

-- in a lane, all bits where the first octet is less or the same, else none
abbrev pub at_most : ℕ → ℕ → ℕ
at_most a b = cond (leb a b) 255 0

-- the difference in a lane
abbrev pub lane_minus : ℕ → ℕ → ℕ
lane_minus a b = (a + (256 - b)) % 256

-- The operations f and the class p may ask one thing t of the octet, such as whether it is the quote: then they agree whatever the answer.
each_lane : (t : ℕ → Bool) (f : Bool → ℕ → ℕ) (p : Bool → ℕ → Bool) → ((b : Bool) → T (holds_below (λ x. same (top 7 (f b x)) (p b x)) 256))
    → (v : List ℕ) → Each1 (Fits w8) v → map (top 7) (map (λ x. f (t x) x) v) ≡ map (λ x. p (t x) x) v
each_lane t f p all [] fits = refl
each_lane t f p all (x ∷ xs) fits =
    ap₂ (λ a b. a ∷ b) (same_is _ _ (holds_at (λ y. same (top 7 (f (t x) y)) (p (t x) y)) 256 (all (t x)) x fits.0.fits)) (each_lane t f p all xs fits.1)

-- a mask of lanes is that of a class of octets, if the two agree at each of the 256
pub masked_by : (t : ℕ → Bool) (f : Bool → ℕ → ℕ) (p : Bool → ℕ → Bool) → ((b : Bool) → T (holds_below (λ x. same (top 7 (f b x)) (p b x)) 256))
    → (v z : List ℕ) → length v ≤ 64 → Each1 (Fits w8) v → z ≡ map (λ x. f (t x) x) v → mask_l (map (top 7) z) % 2 ^ 64 ≡ mask_l (map (λ x. p (t x) x) v)
masked_by t f p all v z short fits e =
    ap (λ l. mask_l l % 2 ^ 64) (ap (map (top 7)) e ∙ each_lane t f p all v fits)
    ∙ mask_l-mod (map (λ x. p (t x) x) v) 64 (omega (arith, length-map v (λ x. p (t x) x)))
