-- What is answered where a document went on.
use Rattle.std.proofs.Common.{ℕ, List, ◌≡◌, ◌∷◌, [], ◌++◌, IsNone, IfSome, ◌↔◌}
use Rattle.ion.specs.Names.{Catalog, Ended, Grows, IfOpen, IfRefused, Inlet, IsReady, Items, Limits, Open, ReadState, Refused, Stood, Streams, Value, format_of}
use Rattle.ion_symtab.specs.Trace as traces
use Rattle.ion.proofs.Fronts.{front_ended, front_open}
use Rattle.ion.specs.Given.{GivesFront, IsRefused}

-- where a document can't stand refused, it doesn't
pub refused_not : {X : Type 0} (place : ReadState X) → IfRefused place ⊥ → IsRefused place → ⊥
refused_not (Open source) fine h = h
refused_not Ended fine h = h
refused_not (Refused refusal) fine h = fine

-- wherever a document stands that isn't refused, its values are the front of the stream of what was heard
pub front_at : {S X : Type 0} (R : Inlet S) (I : Items X) (g : Catalog) (l : Limits)
    (grows : (u w : List ℕ) → Grows (I.trace g l u) (I.trace g l (u ++ w)))
    (so_far : (r : X) (u : List ℕ) (s : List (Value × ℕ)) → I.stands r u s → IsNone (I.awaits r) → (I.trace (I.catalog r) (I.limits r) u).given ≡ s)
    (with_next : (r : X) (u : List ℕ) (s : List (Value × ℕ)) → I.stands r u s
    → IfSome (I.awaits r) (λ octet. traces.IsFront s (I.trace (I.catalog r) (I.limits r) (u ++ octet ∷ [])).given))
    (exact : (u : List ℕ) (s : List Value) → Streams (I.trace g l u) s ↔ I.denotes g l u s) (one : (u : List ℕ) (s t : List Value) → I.denotes g l u s
    → I.denotes g l u t → s ≡ t)
    (first now : S) (place : ReadState X) (s : List Value) → IfOpen place (IsReady I) → IfRefused place ⊥ → Stood R I g l first now place s
    → GivesFront R (format_of I g l) first now s
front_at R I g l grows so_far with_next exact one first now (Open source) s ready fine h =
    front_open R I g l grows so_far with_next exact first now source s ready.begins h
front_at R I g l grows so_far with_next exact one first now Ended s ready fine h = front_ended R I g l one first now s h
front_at R I g l grows so_far with_next exact one first now (Refused refusal) s ready fine h = absurd fine
