-- How a call ends that had no catalog or limits.
use Rattle.std.proofs.Common.{◌≡◌, ℕ, List, [], sym, subst}
use Rattle.ion_memory.specs.Names.{Ending}
use Rattle.ion_memory.specs.Outcomes.{IsNoSetting, IsOutcome, IsRight, not_begun}

pub none : (catalog : List ℕ) (depth item : ℕ) (Right : IsRight) (e : Ending) (text : List ℕ) (f : Ending) → IsNoSetting catalog depth item f
    → (e ≡ f) × (text ≡ []) → IsOutcome catalog depth item Right e text
none catalog depth item Right e text f h k = not_begun (subst (λ (x : Ending). IsNoSetting catalog depth item x) (sym k.0) h) k.1
