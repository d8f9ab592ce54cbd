-- Two values have one path at most.
use Rattle.std.proofs.Common.{◌≡◌, ℕ, ◌+◌, ◌<◌, zero, suc, List, [], ◌∷◌, take, drop, true, false, Ordering, Less, Equal, Greater, Option, Some, refl, arith, ap, ◌∙◌, sym, subst, true≢false, ◌⊎◌, ⊎_elim, inl, inr}
use Rattle.std.specs.Ordering.{is_lt, ordering_reverse}
use lib.Pointwise.{pointwise}
use Rattle.ion_model.specs.Names.{AtFields, AtItems, Field, FieldsPart, IsPath, ItemsPart, Layer, LeastParting, Part, Payload-F, Value, field_count, fields, heads_same, items, once_named, out-Payload, same, scalar, symbol_cmp, symbol_same}
use Rattle.ion_atoms.specs.laws.Tests.{first, second}
use Rattle.ion_model.specs.laws.OrderTotal.{symbol_cmp-total}
use Rattle.ion_model.specs.laws.Parts.{scalar_from, symbol_is}
use Rattle.ion_model.proofs.PartingLaws.{contra, path_differs, tag}

-- the items of two lists part at one place alone
module _ (p q : List Part) (one : (v w : Value) → IsPath p v w → IsPath q v w → p ≡ q) where
  items_one : (xs ys : List Value) (k l : ℕ) → pointwise same (take k xs) (take k ys) ≡ true → pointwise same (take l xs) (take l ys) ≡ true
      → AtItems p (IsPath p) (drop k xs) (drop k ys) → AtItems q (IsPath q) (drop l xs) (drop l ys) → (k ≡ l) × (p ≡ q)
  items_one [] [] zero l a b h g = absurd h
  items_one [] [] (suc k) l a b h g = absurd h
  items_one [] (y ∷ ys) zero zero a b h g = (refl, h ∙ sym g)
  items_one [] (y ∷ ys) zero (suc l) a b h g = absurd (true≢false (sym b))
  items_one [] (y ∷ ys) (suc k) l a b h g = absurd (true≢false (sym a))
  items_one (x ∷ xs) [] zero zero a b h g = (refl, h ∙ sym g)
  items_one (x ∷ xs) [] zero (suc l) a b h g = absurd (true≢false (sym b))
  items_one (x ∷ xs) [] (suc k) l a b h g = absurd (true≢false (sym a))
  items_one (x ∷ xs) (y ∷ ys) zero zero a b h g = (refl, one x y h g)
  items_one (x ∷ xs) (y ∷ ys) zero (suc l) a b h g = absurd (contra _ (first (same x y) _ b) (path_differs p x y h))
  items_one (x ∷ xs) (y ∷ ys) (suc k) zero a b h g = absurd (contra _ (first (same x y) _ a) (path_differs q x y g))
  items_one (x ∷ xs) (y ∷ ys) (suc k) (suc l) a b h g =
      let r = items_one xs ys k l (second (same x y) _ a) (second (same x y) _ b) h g in
      (ap suc r.0, r.1)

  fields_one : (f g : Option Field) → AtFields p (IsPath p) f g → AtFields q (IsPath q) f g → p ≡ q
  fields_one (Some f) (Some g) h k = one f.value g.value h k
  fields_one _ _ h k = h ∙ sym k

-- names of which neither is less are one
neither_less : (a b : Ordering) → b ≡ ordering_reverse a → is_lt a ≡ false → is_lt b ≡ false → a ≡ Equal
neither_less Less b r h k = absurd (true≢false h)
neither_less Equal b r h k = refl
neither_less Greater b r h k = absurd (true≢false (sym (ap is_lt r) ∙ k))

least_one : (fs gs : List Field) (s t : Option (List ℕ)) → LeastParting fs gs s → LeastParting fs gs t → s ≡ t
least_one fs gs s t l m =
    let not_below : is_lt (symbol_cmp s t) ≡ false = subst (λ n. is_lt (symbol_cmp n t) ≡ false) l.named (m.least l.field l.parted) in
    let not_above : is_lt (symbol_cmp t s) ≡ false = subst (λ n. is_lt (symbol_cmp n s) ≡ false) m.named (l.least m.field m.parted) in
    symbol_is s t (neither_less (symbol_cmp s t) (symbol_cmp t s) (symbol_cmp-total.antisymm t s) not_below not_above)

-- a payload has no items, or no fields and is of a kind below the structs
items_or_fields : (a : Layer) → (items a ≡ []) ⊎ ((fields a ≡ []) × (tag (scalar a) < 12))
items_or_fields (Payload-F.List vs) = inr (refl, omega arith)
items_or_fields (Payload-F.Sexp vs) = inr (refl, omega arith)
items_or_fields _ = inl refl

no_fields : (a : Layer) → tag (scalar a) < 12 → fields a ≡ []
no_fields (Payload-F.Fields fs) h = absurd (omega (arith, h))
no_fields _ h = refl

-- where nothing is inside, nothing parts
items_gone : (rest : List Part) (Leads : Value → Value → Type 0) (vs ws : List Value) (k : ℕ) → vs ≡ [] → ws ≡ [] → AtItems rest Leads (drop k vs) (drop k ws)
    → ⊥
items_gone rest Leads [] [] zero e f h = h
items_gone rest Leads [] [] (suc k) e f h = h
items_gone rest Leads _ _ k e f h = cc

fields_gone : (fs gs : List Field) (s : Option (List ℕ)) → fs ≡ [] → gs ≡ [] → LeastParting fs gs s → ⊥
fields_gone fs gs s e f l = l.parted (ap (λ hs. field_count same hs l.field) (e ∙ sym f))

-- two payloads of one kind don't part both at an item and at a name
item_or_name : (a b : Layer) → tag (scalar a) ≡ tag (scalar b) → (p q : List Part) (n : ℕ) (s : Option (List ℕ)) → ItemsPart p (IsPath p) n (items a) (items b)
    → FieldsPart q (IsPath q) s (fields a) (fields b) → ⊥
item_or_name a b e p q n s i f = ⊎_elim (λ none. ⊎_elim (λ gone. items_gone p _ _ _ i.before none gone i.there)
    (λ r. fields_gone _ _ s (no_fields a (let low = r.1 in omega (arith, low))) r.0 f.name)
    (items_or_fields b))
    (λ r. fields_gone _ _ s r.0 (no_fields b (let low = r.1 in omega (arith, low))) f.name)
    (items_or_fields a)

kinds_agree : (v w : Value) → heads_same v w ≡ true → tag (scalar (out-Payload v.payload)) ≡ tag (scalar (out-Payload w.payload))
kinds_agree v w h = ap tag (scalar_from (scalar (out-Payload v.payload)) (scalar (out-Payload w.payload))
    (second (pointwise symbol_same v.annotations w.annotations) _ h))

-- two values have one path to where they part at most
pub path_one : (p q : List Part) (v w : Value) → IsPath p v w → IsPath q v w → p ≡ q
path_one [] [] v w h k = refl
path_one [] (y ∷ q) v w h k = absurd (contra _ k.0 h)
path_one (x ∷ p) [] v w h k = absurd (contra _ h.0 k)
path_one (Part.Item n ∷ p) (Part.Item m ∷ q) v w h k =
    let i = h.1 in
    let j = k.1 in
    let r = items_one p q (path_one p q) (items (out-Payload v.payload)) (items (out-Payload w.payload)) i.before j.before i.agree j.agree i.there j.there in
    ap (λ x. Part.Item x ∷ p) (i.number ∙ ap (λ x. x + 1) r.0 ∙ sym j.number) ∙ ap (λ x. Part.Item m ∷ x) r.1
path_one (Part.Item n ∷ p) (Part.Name t ∷ q) v w h k = absurd (item_or_name _ _ (kinds_agree v w h.0) p q n t h.1 k.1)
path_one (Part.Name s ∷ p) (Part.Item m ∷ q) v w h k = absurd (item_or_name _ _ (kinds_agree v w h.0) q p m s k.1 h.1)
path_one (Part.Name s ∷ p) (Part.Name t ∷ q) v w h k =
    let fs = fields (out-Payload v.payload) in
    let gs = fields (out-Payload w.payload) in
    let e : s ≡ t = least_one fs gs s t h.1.name k.1.name in
    let there = subst (λ n. AtFields q (IsPath q) (once_named n fs) (once_named n gs)) (sym e) k.1.there in
    ap (λ x. Part.Name x ∷ p) e ∙ ap (λ x. Part.Name t ∷ x) (fields_one p q (path_one p q) (once_named s fs) (once_named s gs) h.1.there there)
