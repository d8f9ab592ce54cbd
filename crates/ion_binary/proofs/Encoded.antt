-- A body behind its place.
use Rattle.std.proofs.Common.{◌≡◌, ℕ, ◌+◌, List, [], ◌∷◌, ◌++◌, length, take, drop, refl, ◌∙◌, append_assoc}
use Rattle.std.proofs.Math.Seq.{take-append_seam, drop-append-add}
use Rattle.ion_binary.specs.Names.{framed}

-- a body behind its place
pub framed_at : (code place : ℕ) (old body mid new : List ℕ) → place ≡ length old → mid ≡ (old ++ 0 ∷ []) ++ body
    → new ≡ take place mid ++ framed code (drop (place + 1) mid) → new ≡ old ++ framed code body
framed_at code place old body mid new at is e =
    let whole : mid ≡ old ++ 0 ∷ body = is ∙ append_assoc old (0 ∷ []) body in
    rw (e, whole, at, take-append_seam old (0 ∷ body), drop-append-add old (0 ∷ body) 1) refl
