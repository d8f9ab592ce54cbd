-- What the first octet of a piece chooses.
use Rattle.std.proofs.Common.{◌≡◌, ℕ, ◌+◌, ◌*◌, ◌<◌, zero, suc, Bool, true, false, List, [], ◌∷◌, length, take, ◌∙◌, sym, refl, arith, eq-eqb, ne_eqb, Option, Some, None, IsSome, slice_get}
use Rattle.ion_docs.specs.Names.{Begins}

-- those at the front of what has begun have begun so
pub begins_front : (b : Bool) (piece : List ℕ) (used : ℕ) → Begins b piece → 0 < used → Begins b (take used piece)
begins_front b [] used h some = absurd h
begins_front b (first ∷ rest) zero h some = absurd (omega arith)
begins_front b (first ∷ rest) (suc used) h some = h

-- a piece whose first octet is E0 begins as binary documents do
pub binary_at_first : (piece : List ℕ) (octet : ℕ) → Some octet ≡ slice_get piece 0 → octet ≡ 224 → Begins true piece
binary_at_first [] octet e is = absurd cc
binary_at_first (first ∷ rest) octet e is = let same : octet ≡ first = cc in eq-eqb first 224 (sym same ∙ is)

-- a piece whose first octet is another than E0 begins as text documents do
pub other_at_first : (piece : List ℕ) (octet : ℕ) → Some octet ≡ slice_get piece 0 → (octet ≡ 224 → ⊥) → Begins false piece
other_at_first [] octet e other = absurd cc
other_at_first (first ∷ rest) octet e other = let same : octet ≡ first = cc in ne_eqb first 224 (λ is. other (same ∙ is))

-- what came of octets, if something did, uses one at least
pub some_used : {A : Type 0} (b : Bool) (piece : List ℕ) (used : ℕ) (value : Option A) → Begins b piece → (value ≡ None → used ≡ length piece)
    → (IsSome value → 0 < 0 + 2 * used) → 0 < used
some_used b [] used value begins all progress = absurd begins
some_used b (first ∷ rest) used None begins all progress = let e = all refl in omega (arith, e)
some_used b (first ∷ rest) used (Some v) begins all progress = let e = progress refl in omega (arith, e)
