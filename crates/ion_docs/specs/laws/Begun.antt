-- What the first octet decides: in which encoding octets are read.
use Rattle.std.proofs.Common.{◌≡◌, ℕ, List, [], ◌∷◌, ◌++◌, ap, Bool, true, false, cond, Option, Some, None}
use Rattle.std.specs.Prelude.{IfSome}
use Rattle.ion_docs.specs.Names.{Begins, Catalog, Limits, Trace, chosen}
use Rattle.ion_binary.specs.machine.Run as binary
use Rattle.ion_text.specs.machine.Run as text

-- octets have begun as those before them
pub begins_on : (b : Bool) (u w : List ℕ) → Begins b u → Begins b (u ++ w)
begins_on b [] w h = absurd h
begins_on b (first ∷ u) w h = h

-- what each encoding says of octets
abbrev pub trace_in : Bool → Catalog → Limits → List ℕ → Trace
trace_in b g l u = cond b (binary.trace g l u) (text.trace g l u)

-- octets that have begun are read in the encoding that their first chooses
pub chosen_in : (b : Bool) (g : Catalog) (l : Limits) (u : List ℕ) → Begins b u → chosen g l u ≡ trace_in b g l u
chosen_in b g l [] h = absurd h
chosen_in b g l (first ∷ u) h = ap (λ b. trace_in b g l (first ∷ u)) h

-- under the same catalog and within the same limits
pub same_trace : (b : Bool) (g h : Catalog) (l k : Limits) → g ≡ h → l ≡ k → trace_in b g l ≡ trace_in b h k
same_trace b g h l k e f = cc

-- what follows for each octet follows for one that is awaited
pub each_some : (P Q : ℕ → Type 0) (o : Option ℕ) → ((x : ℕ) → P x → Q x) → IfSome o P → IfSome o Q
each_some P Q None f h = h
each_some P Q (Some x) f h = f x h
