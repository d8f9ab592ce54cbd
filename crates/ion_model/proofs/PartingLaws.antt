-- Steps of `parting`: one level of a path, and its end.
use Rattle.std.proofs.Common.{◌≡◌, ℕ, ◌≤◌, ◌<◌, ◌+◌, zero, suc, max, map, List, [], ◌∷◌, length, get_or, take, drop, Bool, true, false, ◌&&◌, cond, Option, Some, refl, arith, add-one, ap, ◌∙◌, sym, subst, true≢false}
use Rattle.std.specs.List.{count_by, filter}
use lib.Pointwise.{pointwise}
use Rattle.ion_model.specs.Names.{AtItems, Field, IsPath, Layer, LeastParting, Part, Payload-F, Scalar, Value, depth, field_count, field_same, fields, fields_same, greatest, heads_same, items, layer_same, once_named, only, out-Payload, outs-Fields, outs-List, outs-Sexp, same, scalar, scalar_same, symbol_same}
use Rattle.ion_atoms.specs.laws.Tests.{both, first, second}
use Rattle.ion_model.specs.declared.value.Payload.TheVariants as payloads
use Rattle.ion_model.specs.laws.Counts.{bit, count_by-cons, counts_from}
use Rattle.ion_model.specs.laws.Equivalence.{field_same-equiv, same-equiv, symbol_same-equiv}
use Rattle.ion_model.specs.laws.PartingSteps.{EndOrDiffer}
use Rattle.ion_model.specs.laws.Parts.{scalar_from}
use Rattle.ion_model.specs.laws.Same.{same-is}

-- payloads with values inside, both of one kind
abbrev pub both_hold : Layer → Layer → Bool
both_hold (Payload-F.List vs) (Payload-F.List ws) = true
both_hold (Payload-F.Sexp vs) (Payload-F.Sexp ws) = true
both_hold (Payload-F.Fields fs) (Payload-F.Fields gs) = true
both_hold _ _ = false

-- 0 of a null, else the rank of the kind
abbrev pub tag : Scalar → ℕ
tag s = cond s.full s.kind 0

not_list : (vs : List Value) (b : Layer) → both_hold (Payload-F.List vs) b ≡ false → 10 ≡ tag (scalar b) → ⊥
not_list vs (Payload-F.List ws) h e = true≢false h
not_list vs _ h e = omega (arith, e)

not_sexp : (vs : List Value) (b : Layer) → both_hold (Payload-F.Sexp vs) b ≡ false → 11 ≡ tag (scalar b) → ⊥
not_sexp vs (Payload-F.Sexp ws) h e = true≢false h
not_sexp vs _ h e = omega (arith, e)

not_fields : (fs : List Field) (b : Layer) → both_hold (Payload-F.Fields fs) b ≡ false → 12 ≡ tag (scalar b) → ⊥
not_fields fs (Payload-F.Fields gs) h e = true≢false h
not_fields fs _ h e = omega (arith, e)

empty : (b : Layer) → tag (scalar b) < 10 → (items b ≡ []) × (fields b ≡ [])
empty (Payload-F.List vs) h = absurd (omega (arith, h))
empty (Payload-F.Sexp vs) h = absurd (omega (arith, h))
empty (Payload-F.Fields fs) h = absurd (omega (arith, h))
empty _ h = (refl, refl)

-- payloads of one kind that don't both hold values have nothing inside that could differ
module _ (E : Value → Value → Bool) where
  abbrev inside_same : Layer → Layer → Bool
  inside_same a b = pointwise E (items a) (items b) && fields_same E (fields a) (fields b)

  nothing : (a b : Layer) → items a ≡ [] → fields a ≡ [] → items b ≡ [] → fields b ≡ [] → inside_same a b ≡ true
  nothing a b p q r s = rw (p, q, r, s) refl

  inside : (a b : Layer) → both_hold a b ≡ false → tag (scalar a) ≡ tag (scalar b) → inside_same a b ≡ true
  inside (Payload-F.List vs) b h e = absurd (not_list vs b h e)
  inside (Payload-F.Sexp vs) b h e = absurd (not_sexp vs b h e)
  inside (Payload-F.Fields fs) b h e = absurd (not_fields fs b h e)
  inside a b h e = let p = empty b (omega (arith, e)) in nothing a b refl refl p.0 p.1

not_true : (b : Bool) → (b ≡ true → ⊥) → b ≡ false
not_true true h = absurd (h refl)
not_true false h = refl

-- the heads of equivalent values agree
heads_from : (v w : Value) → same v w ≡ true → heads_same v w ≡ true
heads_from v w h =
    let s = sym (same-is v w) ∙ h in
    let l = second (pointwise symbol_same v.annotations w.annotations) _ s in
    both _ _ (first (pointwise symbol_same v.annotations w.annotations) _ s)
    (first (scalar_same (scalar (out-Payload v.payload)) (scalar (out-Payload w.payload))) _ l)

-- values of which nothing is looked into part at once
pub ends_here : (v w : Value) → both_hold (out-Payload v.payload) (out-Payload w.payload) ≡ false → same v w ≡ false → heads_same v w ≡ false
ends_here v w none differ = not_true _ (λ h.
    let a : Layer = out-Payload v.payload in
    let b : Layer = out-Payload w.payload in
    let ann = first (pointwise symbol_same v.annotations w.annotations) _ h in
    let sc : scalar_same (scalar a) (scalar b) ≡ true = second (pointwise symbol_same v.annotations w.annotations) _ h in
    let k : tag (scalar a) ≡ tag (scalar b) = ap tag (scalar_from (scalar a) (scalar b) sc) in
    true≢false (sym (same-is v w ∙ both _ _ ann (both _ _ sc (inside same a b none k))) ∙ differ))

-- values are equivalent if their annotations agree and one level inside does
same_at : (v w : Value) (a b : Layer) → out-Payload v.payload ≡ a → out-Payload w.payload ≡ b → pointwise symbol_same v.annotations w.annotations ≡ true
    → layer_same same a b ≡ true → same v w ≡ true
same_at v w a b p q ann h = same-is v w ∙ both _ _ ann (subst (λ x. layer_same same x (out-Payload w.payload) ≡ true) (sym p)
    (subst (λ y. layer_same same a y ≡ true) (sym q) h))

-- no test is both true and false
pub contra : (b : Bool) → b ≡ true → b ≡ false → ⊥
contra b p q = true≢false (sym p ∙ q)

-- of values that aren't equivalent, with annotations that agree, what is inside parts
pub list_parts : (v w : Value) (vs ws : List Value) → v.payload ≡ payloads.List vs → w.payload ≡ payloads.List ws
    → pointwise symbol_same v.annotations w.annotations ≡ true → same v w ≡ false → pointwise same vs ws ≡ false
list_parts v w vs ws p q ann differ = not_true _ (λ h.
    contra _ (same_at v w (Payload-F.List vs) (Payload-F.List ws) (ap out-Payload p ∙ outs-List vs) (ap out-Payload q ∙ outs-List ws) ann (both _ _ h refl))
    differ)

-- s-expressions that aren't equivalent, with the same annotations, differ in their items
pub sexp_parts : (v w : Value) (vs ws : List Value) → v.payload ≡ payloads.Sexp vs → w.payload ≡ payloads.Sexp ws
    → pointwise symbol_same v.annotations w.annotations ≡ true → same v w ≡ false → pointwise same vs ws ≡ false
sexp_parts v w vs ws p q ann differ = not_true _ (λ h.
    contra _ (same_at v w (Payload-F.Sexp vs) (Payload-F.Sexp ws) (ap out-Payload p ∙ outs-Sexp vs) (ap out-Payload q ∙ outs-Sexp ws) ann (both _ _ h refl))
    differ)

-- structs that aren't equivalent, with the same annotations, differ in their fields
pub struct_parts : (v w : Value) (fs gs : List Field) → v.payload ≡ payloads.Fields fs → w.payload ≡ payloads.Fields gs
    → pointwise symbol_same v.annotations w.annotations ≡ true → same v w ≡ false → fields_same same fs gs ≡ false
struct_parts v w fs gs p q ann differ = not_true _ (λ h.
    contra _ (same_at v w (Payload-F.Fields fs) (Payload-F.Fields gs) (ap out-Payload p ∙ outs-Fields fs) (ap out-Payload q ∙ outs-Fields gs) ann h) differ)

-- the items at the first place that differs aren't equivalent
pub differ_at : (vs ws : List Value) (k : ℕ) (v w : Value) → k < length vs → k < length ws → v ≡ get_or vs k v → w ≡ get_or ws k w
    → EndOrDiffer (drop k vs) (drop k ws) → same v w ≡ false
differ_at (x ∷ vs) (y ∷ ws) zero v w p q e f h = rw (e, f) h
differ_at (x ∷ vs) (y ∷ ws) (suc k) v w p q e f h = differ_at vs ws k v w (omega arith) (omega arith) e f h
differ_at _ _ k v w p q e f h = absurd (omega arith)

-- one item more that agrees
agree_suc : (vs ws : List Value) (k : ℕ) (v w : Value) → k < length vs → k < length ws → v ≡ get_or vs k v → w ≡ get_or ws k w → same v w ≡ true
    → pointwise same (take k vs) (take k ws) ≡ true → pointwise same (take (suc k) vs) (take (suc k) ws) ≡ true
agree_suc (x ∷ vs) (y ∷ ws) zero v w p q e f h so_far = both _ _ (rw (← e, ← f) h) refl
agree_suc (x ∷ vs) (y ∷ ws) (suc k) v w p q e f h so_far =
    both _ _ (first (same x y) _ so_far) (agree_suc vs ws k v w (omega arith) (omega arith) e f h (second (same x y) _ so_far))
agree_suc _ _ k v w p q e f h so_far = absurd (omega arith)

-- items that agree up to a place agree up to the next, where those at it are the same
pub agree_more : (vs ws : List Value) (k : ℕ) (v w : Value) → k < length vs → k < length ws → v ≡ get_or vs k v → w ≡ get_or ws k w → same v w ≡ true
    → pointwise same (take k vs) (take k ws) ≡ true → pointwise same (take (k + 1) vs) (take (k + 1) ws) ≡ true
agree_more vs ws k v w p q e f h so_far = rw (add-one k) (agree_suc vs ws k v w p q e f h so_far)

-- one side ends behind the items that agree
pub one_ends : (P : Value → Value → Type 0) (vs ws : List Value) (k : ℕ) → (k < length vs → k < length ws → ⊥) → k ≤ length vs
    → pointwise same (take k vs) (take k ws) ≡ true → pointwise same vs ws ≡ false → AtItems [] P (drop k vs) (drop k ws)
one_ends P [] [] k short le agree differ = absurd (true≢false differ)
one_ends P [] (w ∷ ws) (suc k) short le agree differ = absurd (omega arith)
one_ends P (v ∷ vs) [] (suc k) short le agree differ = absurd (true≢false (sym agree))
one_ends P (v ∷ vs) (w ∷ ws) zero short le agree differ = absurd (short (omega arith) (omega arith))
one_ends P (v ∷ vs) (w ∷ ws) (suc k) short le agree differ =
    one_ends P vs ws k (λ p q. short (omega arith) (omega arith)) (omega arith) (second (same v w) _ agree)
    (not_true _ (λ h. contra _ (both _ _ (first (same v w) _ agree) h) differ))
one_ends P _ _ _ _ le agree differ = refl

-- the fields of a name: what counts among all of them counts among these
named_step : (f g : Field) (b : Bool) (fs : List Field) (n : ℕ) → n ≡ count_by (λ h. same f.value h.value) fs
    → cond (b && same f.value g.value) 1 0 + n ≡ count_by (λ h. same f.value h.value) (cond b (g ∷ fs) fs)
named_step f g true fs n e = omega (arith, e, count_by-cons (λ h. same f.value h.value) g fs)
named_step f g false fs n e = omega (arith, e)

named-count : (s : Option (List ℕ)) (f : Field) → symbol_same s f.name ≡ true → (fs : List Field)
    → field_count same fs f ≡ count_by (λ g. same f.value g.value) (filter (λ g. symbol_same s g.name) fs)
named-count s f is [] = refl
named-count s f is (g ∷ fs) =
    let q : symbol_same f.name g.name ≡ symbol_same s g.name = sym (symbol_same-equiv.congr s f.name g.name is) in
    count_by-cons (field_same same f) g fs ∙ ap (λ b. cond (b && same f.value g.value) 1 0 + field_count same fs f) q
    ∙ named_step f g _ _ _ (named-count s f is fs)

only_is : (fs : List Field) (f : Field) → only fs ≡ Some f → fs ≡ f ∷ []
only_is [] f e = cc
only_is (g ∷ []) f e = cc
only_is (g ∷ h ∷ fs) f e = cc

-- a name that stands once counts once
once-count : (s : Option (List ℕ)) (f x : Field) (fs : List Field) → symbol_same s f.name ≡ true → once_named s fs ≡ Some x
    → field_count same fs f ≡ bit (same f.value x.value) + 0
once-count s f x fs is e =
    named-count s f is fs ∙ ap (count_by (λ g. same f.value g.value)) (only_is _ x e) ∙ count_by-cons (λ g. same f.value g.value) x []

-- the values of a name that stands once in both structs part
pub once_parts : (fs gs : List Field) (s : Option (List ℕ)) (f g : Field) → LeastParting fs gs s → once_named s fs ≡ Some f → once_named s gs ≡ Some g
    → same f.value g.value ≡ false
once_parts fs gs s f g l p q = not_true _ (λ h.
    let x = l.field in
    let is : symbol_same s x.name ≡ true = subst (λ n. symbol_same s n ≡ true) (sym l.named) (symbol_same-equiv.refl s) in
    let e : same x.value f.value ≡ same x.value g.value = same-equiv.symm x.value f.value ∙ same-equiv.congr f.value g.value x.value h
    ∙ same-equiv.symm g.value x.value in
    l.parted (once-count s x f fs is p ∙ ap (λ b. bit b + 0) e ∙ sym (once-count s x g gs is q)))

-- and is no deeper than the fields
abbrev deep : List Field → ℕ
deep fs = greatest (map (λ f. depth f.value) fs)

deep_cons : (b : Bool) (f : Field) (fs : List Field) (n : ℕ) → deep fs ≤ n → deep (cond b (f ∷ fs) fs) ≤ max (depth f.value) n
deep_cons true f fs n h = omega (arith, h)
deep_cons false f fs n h = omega (arith, h)

deep_filter : (test : Field → Bool) (fs : List Field) → deep (filter test fs) ≤ deep fs
deep_filter test [] = omega arith
deep_filter test (f ∷ fs) = deep_cons (test f) f (filter test fs) (deep fs) (deep_filter test fs)

-- the value of a name that stands once is no deeper than the deepest of the fields
pub once_deep : (s : Option (List ℕ)) (fs : List Field) (f : Field) → once_named s fs ≡ Some f → depth f.value ≤ deep fs
once_deep s fs f e =
    let k : deep (filter (λ g. symbol_same s g.name) fs) ≡ deep (f ∷ []) = ap deep (only_is _ f e) in
    omega (arith, k, deep_filter (λ g. symbol_same s g.name) fs)

-- what a path leads to isn't equivalent
items_differ : (rest : List Part) → ((v w : Value) → IsPath rest v w → same v w ≡ false) → (vs ws : List Value) (k : ℕ)
    → AtItems rest (IsPath rest) (drop k vs) (drop k ws) → pointwise same vs ws ≡ true → ⊥
items_differ rest each [] [] zero h s = h
items_differ rest each [] [] (suc k) h s = h
items_differ rest each [] (w ∷ ws) k h s = true≢false (sym s)
items_differ rest each (v ∷ vs) [] k h s = true≢false (sym s)
items_differ rest each (v ∷ vs) (w ∷ ws) zero h s = contra _ (first (same v w) _ s) (each v w h)
items_differ rest each (v ∷ vs) (w ∷ ws) (suc k) h s = items_differ rest each vs ws k h (second (same v w) _ s)

fields_differ : (fs gs : List Field) (s : Option (List ℕ)) → LeastParting fs gs s → fields_same same fs gs ≡ true → ⊥
fields_differ fs gs s l h = l.parted ((counts_from (field_same same) (field_same-equiv same same-equiv) fs gs h).at l.field)

-- values with a path to where they part aren't equivalent
pub path_differs : (path : List Part) (v w : Value) → IsPath path v w → same v w ≡ false
path_differs [] v w h = not_true _ (λ s. contra _ (heads_from v w s) h)
path_differs (Part.Item n ∷ rest) v w h = not_true _ (λ s.
    let l = second (pointwise symbol_same v.annotations w.annotations) _ (sym (same-is v w) ∙ s) in
    let i = second (scalar_same (scalar (out-Payload v.payload)) (scalar (out-Payload w.payload))) _ l in
    items_differ rest (path_differs rest) (items (out-Payload v.payload)) (items (out-Payload w.payload)) h.1.before h.1.there
    (first (pointwise same (items (out-Payload v.payload)) (items (out-Payload w.payload))) _ i))
path_differs (Part.Name s ∷ rest) v w h = not_true _ (λ e.
    let l = second (pointwise symbol_same v.annotations w.annotations) _ (sym (same-is v w) ∙ e) in
    let i = second (scalar_same (scalar (out-Payload v.payload)) (scalar (out-Payload w.payload))) _ l in
    fields_differ (fields (out-Payload v.payload)) (fields (out-Payload w.payload)) s h.1.name
    (second (pointwise same (items (out-Payload v.payload)) (items (out-Payload w.payload))) _ i))
