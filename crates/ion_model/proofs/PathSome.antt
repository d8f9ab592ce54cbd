-- Values that aren't equivalent have a path.
use Rattle.std.proofs.Common.{◌≡◌, ℕ, ◌≤◌, ◌<◌, ◌+◌, zero, suc, List, [], ◌∷◌, take, drop, Bool, true, false, ◌&&◌, Option, Some, None, MatchOption, refl, arith, ap, ◌∙◌, sym, true≢false}
use lib.Pointwise.{pointwise}
use Rattle.ion_model.specs.Names.{AtFields, AtItems, Field, IsPath, Layer, LeastParting, Part, Payload-F, Value, depth, fields, fields_same, heads_same, items, layer_depth, once_named, out-Payload, same, scalar, scalar_same, symbol_same}
use Rattle.ion_atoms.specs.laws.Tests.{both, first, second}
use Rattle.ion_model.specs.laws.Measures.{depth-out}
use Rattle.ion_model.specs.laws.PartingSteps.{first_untied}
use Rattle.ion_model.specs.laws.Same.{items-deep, items_deep, same-is}
use Rattle.ion_model.proofs.NormalSome.{rows_some}
use Rattle.ion_model.proofs.PartingLaws.{contra, once_deep, once_parts}
use Rattle.ion_model.proofs.PartingLeast.{least-name}

pub record PathOf (v w : Value) : Type 0 where
  pub path : List Part
  pub is : IsPath path v w

-- the first items that part, behind those that agree
record ItemsOf (vs ws : List Value) : Type 0 where
  pub rest : List Part
  pub before : ℕ
  pub agree : pointwise same (take before vs) (take before ws) ≡ true
  pub there : AtItems rest (IsPath rest) (drop before vs) (drop before ws)

-- the least name that parts
record FieldsOf (fs gs : List Field) : Type 0 where
  pub rest : List Part
  pub name : Option (List ℕ)
  pub least : LeastParting fs gs name
  pub there : AtFields rest (IsPath rest) (once_named name fs) (once_named name gs)

least_from : (fs gs : List Field) (answer : Option (Option (List ℕ))) → fields_same same fs gs ≡ false
    → MatchOption answer (fields_same same fs gs ≡ true) (λ s. LeastParting fs gs s) → (s : Option (List ℕ)) × LeastParting fs gs s
least_from fs gs None differ h = absurd (contra _ h differ)
least_from fs gs (Some s) differ h = (s, h)

least_some : (fs gs : List Field) → fields_same same fs gs ≡ false → (s : Option (List ℕ)) × LeastParting fs gs s
least_some fs gs differ =
    let l = rows_some fs in
    let r = rows_some gs in
    least_from fs gs (first_untied l.0 r.0) differ (least-name fs gs l.0 r.0 l.1 r.1)

none_once : (s : Option (List ℕ)) (f : Field) (P : Type 0) → once_named s [] ≡ Some f → P
none_once s f P e = absurd (let h : None ≡ Some f = e in cc)

once_below : (a : Layer) (s : Option (List ℕ)) (f : Field) → once_named s (fields a) ≡ Some f → depth f.value < layer_depth a
once_below (Payload-F.Fields fs) s f e = omega (arith, once_deep s fs f e)
once_below _ s f e = none_once s f _ e

-- of the values inside, where values less than n deep have one
module _ (n : ℕ) (each : (v w : Value) → depth v < n → same v w ≡ false → PathOf v w) where
  item_at : (v w : Value) (vs ws : List Value) (b : Bool) → same v w ≡ b → depth v < n → pointwise same (v ∷ vs) (w ∷ ws) ≡ false
      → (pointwise same vs ws ≡ false → ItemsOf vs ws) → ItemsOf (v ∷ vs) (w ∷ ws)
  item_at v w vs ws false is deep differ rest = let p = each v w deep is in record { rest = p.path; before = 0; agree = refl; there = p.is }
  item_at v w vs ws true is deep differ rest =
      let r = rest (sym (ap (λ b. b && pointwise same vs ws) is) ∙ differ) in
      record { rest = r.rest; before = suc r.before; agree = both _ _ is r.agree; there = r.there }

  items_some : (vs ws : List Value) → items_deep vs ≤ n → pointwise same vs ws ≡ false → ItemsOf vs ws
  items_some [] [] h differ = absurd (true≢false differ)
  items_some (v ∷ vs) (w ∷ ws) h differ = item_at v w vs ws (same v w) refl (omega arith) differ (items_some vs ws (omega arith))
  items_some _ _ h differ = record { rest = []; before = 0; agree = refl; there = refl }

  field_at : (fs gs : List Field) (s : Option (List ℕ)) → LeastParting fs gs s → ((f : Field) → once_named s fs ≡ Some f → depth f.value < n)
      → (f g : Option Field) → once_named s fs ≡ f → once_named s gs ≡ g → (rest : List Part) × AtFields rest (IsPath rest) f g
  field_at fs gs s l deep (Some f) (Some g) p q = let r = each f.value g.value (deep f p) (once_parts fs gs s f g l p q) in (r.path, r.is)
  field_at fs gs s l deep _ _ p q = ([], refl)

  fields_some : (a : Layer) (gs : List Field) → layer_depth a ≤ n → fields_same same (fields a) gs ≡ false → FieldsOf (fields a) gs
  fields_some a gs h differ =
      let l = least_some (fields a) gs differ in
      let r = field_at (fields a) gs l.0 l.1 (λ f e. omega (arith, h, once_below a l.0 f e)) (once_named l.0 (fields a)) (once_named l.0 gs) refl refl in
      record { rest = r.0; name = l.0; least = l.1; there = r.1 }

  inside_some : (v w : Value) (i f : Bool) → heads_same v w ≡ true → depth v ≤ n
      → pointwise same (items (out-Payload v.payload)) (items (out-Payload w.payload)) ≡ i
      → fields_same same (fields (out-Payload v.payload)) (fields (out-Payload w.payload)) ≡ f
      → (i && f) ≡ false → PathOf v w
  inside_some v w false f heads h p q differ =
      let a : Layer = out-Payload v.payload in
      let r = items_some (items a) (items (out-Payload w.payload)) (omega (arith, h, items-deep a, depth-out v)) p in
      record { path = Part.Item (r.before + 1) ∷ r.rest; is = (heads, record { before = r.before; number = refl; agree = r.agree; there = r.there }) }
  inside_some v w true false heads h p q differ =
      let a : Layer = out-Payload v.payload in
      let r = fields_some a (fields (out-Payload w.payload)) (omega (arith, h, depth-out v)) q in
      record { path = Part.Name r.name ∷ r.rest; is = (heads, record { name = r.least; there = r.there }) }
  inside_some v w true true heads h p q differ = absurd (true≢false differ)

  at_heads : (v w : Value) (b : Bool) → heads_same v w ≡ b → depth v ≤ n → same v w ≡ false → PathOf v w
  at_heads v w false is h differ = record { path = []; is = is }
  at_heads v w true is h differ =
      let a : Layer = out-Payload v.payload in
      let b : Layer = out-Payload w.payload in
      let ann : pointwise symbol_same v.annotations w.annotations ≡ true = first _ _ is in
      let sc : scalar_same (scalar a) (scalar b) ≡ true = second (pointwise symbol_same v.annotations w.annotations) _ is in
      let i = pointwise same (items a) (items b) in
      let f = fields_same same (fields a) (fields b) in
      inside_some v w i f is h refl refl
      (sym (same-is v w ∙ ap (λ x. x && (scalar_same (scalar a) (scalar b) && (i && f))) ann ∙ ap (λ x. x && (i && f)) sc) ∙ differ)

path_to : (n : ℕ) (v w : Value) → depth v < n → same v w ≡ false → PathOf v w
path_to zero v w h differ = absurd (omega arith)
path_to (suc n) v w h differ = at_heads n (path_to n) v w (heads_same v w) refl (omega arith) differ

-- values that aren't equivalent have a path to where they part
pub path_some : (v w : Value) → same v w ≡ false → PathOf v w
path_some v w differ = path_to (suc (depth v)) v w (omega arith) differ
