-- What stands at the end of a path truly differs.
use Rattle.std.proofs.Common.{◌≡◌, ◌-◌, List, [], ◌∷◌, drop, Option, Some, arith, subst}
use Rattle.ion_model.specs.Names.{AtFields, AtItems, AtNamed, EndsApart, Field, IsPartedName, IsPath, Part, Value, fields, items, once_named, out-Payload}
use Rattle.ion_model.proofs.PartingLaws.{path_differs}

module _ (rest : List Part) (P Q : Value → Value → Type 0) (leads : (v w : Value) → P v w → Q v w) where
  at_items : (vs ws : List Value) → AtItems rest P vs ws → AtItems rest Q vs ws
  at_items (v ∷ vs) (w ∷ ws) h = leads v w h
  at_items _ _ h = h

  at_named : (N : Type 0) (f g : Option Field) → N → AtFields rest P f g → AtNamed rest Q N f g
  at_named N (Some f) (Some g) n h = leads f.value g.value h
  at_named N _ _ n h = (h, n)

-- what stands at the end of a path to where two values part truly differs
pub ends_apart : (path : List Part) (v w : Value) → IsPath path v w → EndsApart path v w
ends_apart [] v w h = path_differs [] v w h
ends_apart (Part.Item n ∷ rest) v w h =
    let vs = items (out-Payload v.payload) in
    let ws = items (out-Payload w.payload) in
    let number = h.1.number in
    let before : h.1.before ≡ n - 1 = omega (arith, number) in
    subst (λ k. AtItems rest (EndsApart rest) (drop k vs) (drop k ws)) before
    (at_items rest (IsPath rest) (EndsApart rest) (ends_apart rest) (drop h.1.before vs) (drop h.1.before ws) h.1.there)
ends_apart (Part.Name s ∷ rest) v w h =
    let fs = fields (out-Payload v.payload) in
    let gs = fields (out-Payload w.payload) in
    at_named rest (IsPath rest) (EndsApart rest) (ends_apart rest) (IsPartedName fs gs s) (once_named s fs) (once_named s gs)
    (record { field = h.1.name.field; named = h.1.name.named; parted = h.1.name.parted }) h.1.there
