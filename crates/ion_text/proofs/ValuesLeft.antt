-- How many values may still come before another octet is used.
use Rattle.std.proofs.Common.{◌≡◌, ℕ, ◌≤◌, Bool, true, false, List, [], ◌∷◌, Option, Some, None, arith}
use Rattle.ion_text.specs.Names.{pending_by}

-- one at most
pub few : (b : Bool) (o : Option ℕ) → pending_by b o ≤ 1
few b (Some o) = omega arith
few true None = omega arith
few false None = omega arith

pub nothing : (o : ℕ) (rest : List ℕ) → [] ≡ o ∷ rest → ⊥
nothing o rest e = cc
