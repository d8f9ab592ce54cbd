-- What a step of a reader of documents leaves behind it, and what its refusal says.
use Rattle.std.specs.Prelude.{◌≡◌, ◌≢◌, ℕ, ◌+◌, ◌*◌, ◌<◌, ◌≤◌, List, ◌∷◌, length, drop, Option, Some, None, IfSome, IsSome, IsNone}
use Rattle.ion_symtab.specs.Names.Below.{Memory, Refusal}

-- What contracts see of a reader, by the ghost members of `Items`: how many octets were used so far, how many values may still come before
-- another one is used, the octet that showed a value's end and wasn't used, and the refusal that was answered.
module _ {X : Type 0} (taken pending : X → ℕ) (awaits : X → Option ℕ) (failed : X → Option Refusal) where
  -- A step from old to new answered `Ok`: it used the first octets of the piece, so many, and found something or nothing.
  pub record StepsOver {A : Type 0} (old new : X) (piece : List ℕ) (count : ℕ) (found : Option A) : Type 0 where
    pub used : count ≤ length piece
    -- without a value it used the whole piece
    pub uses_all : found ≡ None → count ≡ length piece
    pub counts : taken new ≡ taken old + count
    -- a value uses up something of what is pending, and an octet used adds 2 at most
    pub progress : IsSome found → pending new < pending old + 2 * count
    pub few_pending : pending new ≤ pending old + 2 * count
    -- where an octet was awaited, it was used
    pub onward : IsSome (awaits old) → 0 < count
    pub not_failed : failed new ≡ None
    -- the octet that is awaited is the next one of the piece
    pub awaited : IfSome (awaits new) (λ octet. (rest : List ℕ) × (drop count piece ≡ octet ∷ rest))

  -- A step from old to new answered this refusal.
  pub record RefusesBy (old new : X) (piece : List ℕ) (refusal : Refusal) : Type 0 where
    -- a new one names an octet of the piece
    pub within : refusal.reason ≢ Memory → IsNone (failed old) → (taken old < refusal.offset) × (refusal.offset ≤ taken old + length piece)
    -- or, where memory ran out, the octets that earlier steps used
    pub memory : refusal.reason ≡ Memory → IsNone (failed old) → refusal.offset ≡ taken old
    pub fails : failed new ≡ Some refusal
    pub unawaited : IsNone (awaits new)
