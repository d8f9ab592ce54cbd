-- Each value has a normal form: its fields are put in order one by one, inner levels first.
use Rattle.std.proofs.Common.{◌≡◌, ℕ, ◌≤◌, ◌<◌, ◌+◌, zero, suc, List, [], ◌∷◌, length, get_or, Bool, true, false, cond, Ordering, Less, refl, arith, add-one, ap, ◌∙◌, sym, subst, true≢false}
use Rattle.std.specs.Ordering.{is_lt, ordering_reverse}
use lib.Pointwise.{pointwise}
use Rattle.ion_model.specs.Names.{AllFieldsNormal, AllNormal, AreNormalOf, Field, FieldsInOrder, IsNormal, Layer, LayerNormal, Payload, Payload-F, Value, annotated, depth, field_cmp, field_same, fields, items, layer_depth, layer_same, order, out-Payload, outs-Fields, outs-List, outs-Sexp, same}
use Rattle.ion_atoms.specs.laws.Tests.{both}
use Rattle.ion_model.specs.declared.value.Payload.TheVariants as payloads
use Rattle.ion_model.specs.laws.Counts.{alike_from, bit, count, count_by-cons}
use Rattle.ion_model.specs.laws.Equivalence.{field_same-equiv, same-equiv, symbol_same-equiv}
use Rattle.ion_model.specs.laws.Measures.{depth-out}
use Rattle.ion_model.specs.laws.OrderTotal.{field_cmp-total, order-total}
use Rattle.ion_model.specs.laws.Same.{fields-deep, fields_deep, items-deep, items_deep}
use Rattle.ion_model.proofs.NormalLaws.{normal_from, pointwise_counts, same_payload}

abbrev below : Field → Field → Bool
below f g = is_lt (field_cmp order f g)

-- a field put before the first that isn't below it
abbrev put : Field → List Field → List Field
put f [] = f ∷ []
put f (g ∷ gs) = cond (below g f) (g ∷ put f gs) (f ∷ g ∷ gs)

abbrev sorted : List Field → List Field
sorted [] = []
sorted (f ∷ fs) = put f (sorted fs)

-- the first of these isn't below a field
abbrev Above : Field → List Field → Type 0
Above f [] = Unit {0}
Above f (g ∷ gs) = below g f ≡ false

-- none is below the one before it
abbrev Up : List Field → Type 0
Up [] = Unit {0}
Up (f ∷ fs) = Above f fs × Up fs

not_both : (a b : Ordering) → b ≡ ordering_reverse a → is_lt a ≡ true → is_lt b ≡ false
not_both Less b r h = ap is_lt r
not_both _ b r h = absurd (true≢false (sym h))

turned : (f g : Field) → below f g ≡ true → below g f ≡ false
turned f g h = not_both (field_cmp order f g) (field_cmp order g f) ((field_cmp-total order order-total).antisymm g f) h

put_above_at : (g f : Field) (h : Field) (hs : List Field) (b : Bool) → below f g ≡ false → below h g ≡ false → Above g (cond b (h ∷ put f hs) (f ∷ h ∷ hs))
put_above_at g f h hs true first rest = rest
put_above_at g f h hs false first rest = first

put_above : (g f : Field) (hs : List Field) → below f g ≡ false → Above g hs → Above g (put f hs)
put_above g f [] first rest = first
put_above g f (h ∷ hs) first rest = put_above_at g f h hs (below h f) first rest

put_up_at : (f g : Field) (gs : List Field) (b : Bool) → below g f ≡ b → Above g gs → Up gs → Up (put f gs) → Up (cond b (g ∷ put f gs) (f ∷ g ∷ gs))
put_up_at f g gs true is above up rest = (put_above g f gs (turned g f is) above, rest)
put_up_at f g gs false is above up rest = (is, (above, up))

put_up : (f : Field) (gs : List Field) → Up gs → Up (put f gs)
put_up f [] up = (tt, tt)
put_up f (g ∷ gs) up = put_up_at f g gs (below g f) refl up.0 up.1 (put_up f gs up.1)

sorted_up : (fs : List Field) → Up (sorted fs)
sorted_up [] = tt
sorted_up (f ∷ fs) = put_up f (sorted fs) (sorted_up fs)

-- by places
placed : (fs : List Field) → Up fs → (k : ℕ) (d : Field) → suc k < length fs → below (get_or fs (suc k) d) (get_or fs k d) ≡ false
placed (f ∷ g ∷ fs) up zero d h = up.0
placed (f ∷ g ∷ fs) up (suc k) d h = placed (g ∷ fs) up.1 k d (omega arith)
placed _ up k d h = absurd (omega arith)

in_order : (fs : List Field) → Up fs → FieldsInOrder fs
in_order fs up k d low h = rw (add-one k) (placed fs up k d (omega arith))

-- the fields that are put are counted as before
module _ (E : Field → Field → Bool) where
  put_counts_at : (x f g : Field) (gs : List Field) (b : Bool) → count E (put f gs) x ≡ bit (E x f) + count E gs x
      → count E (cond b (g ∷ put f gs) (f ∷ g ∷ gs)) x ≡ bit (E x f) + count E (g ∷ gs) x
  put_counts_at x f g gs true h = omega (arith, h, count_by-cons (E x) g (put f gs), count_by-cons (E x) g gs)
  put_counts_at x f g gs false h = count_by-cons (E x) f (g ∷ gs)

  put_counts : (x f : Field) (gs : List Field) → count E (put f gs) x ≡ bit (E x f) + count E gs x
  put_counts x f [] = count_by-cons (E x) f []
  put_counts x f (g ∷ gs) = put_counts_at x f g gs (below g f) (put_counts x f gs)

  sorted_counts : (x : Field) (fs : List Field) → count E (sorted fs) x ≡ count E fs x
  sorted_counts x [] = refl
  sorted_counts x (f ∷ fs) = put_counts x f (sorted fs) ∙ ap (λ n. bit (E x f) + n) (sorted_counts x fs) ∙ sym (count_by-cons (E x) f fs)

-- and are normal as before
one_more : (f : Field) (fs : List Field) → IsNormal f.value → AllFieldsNormal fs → AllFieldsNormal (f ∷ fs)
one_more f fs n all zero d h = n
one_more f fs n all (suc k) d h = all k d (omega arith)

rest_of : (f : Field) (fs : List Field) → AllFieldsNormal (f ∷ fs) → AllFieldsNormal fs
rest_of f fs all k d h = all (suc k) d (omega arith)

put_normal_at : (f g : Field) (gs : List Field) (b : Bool) → IsNormal f.value → AllFieldsNormal (g ∷ gs) → AllFieldsNormal (put f gs)
    → AllFieldsNormal (cond b (g ∷ put f gs) (f ∷ g ∷ gs))
put_normal_at f g gs true n all rest = one_more g (put f gs) (all 0 g (omega arith)) rest
put_normal_at f g gs false n all rest = one_more f (g ∷ gs) n all

put_normal : (f : Field) (gs : List Field) → IsNormal f.value → AllFieldsNormal gs → AllFieldsNormal (put f gs)
put_normal f [] n all = one_more f [] n all
put_normal f (g ∷ gs) n all = put_normal_at f g gs (below g f) n all (put_normal f gs n (rest_of g gs all))

sorted_normal : (fs : List Field) → AllFieldsNormal fs → AllFieldsNormal (sorted fs)
sorted_normal [] all = all
sorted_normal (f ∷ fs) all = put_normal f (sorted fs) (all 0 f (omega arith)) (sorted_normal fs (rest_of f fs all))

-- a normal form of a value
pub record NormalOf (v : Value) : Type 0 where
  pub form : Value
  pub normal : IsNormal form
  pub alike : same form v ≡ true

record NormalItems (vs : List Value) : Type 0 where
  pub forms : List Value
  pub normal : AllNormal forms
  pub alike : pointwise same forms vs ≡ true

record NormalRows (fs : List Field) : Type 0 where
  pub forms : List Field
  pub normal : AllFieldsNormal forms
  pub alike : pointwise (field_same same) forms fs ≡ true

item_more : (v : Value) (vs : List Value) → IsNormal v → AllNormal vs → AllNormal (v ∷ vs)
item_more v vs n all zero d h = n
item_more v vs n all (suc k) d h = all k d (omega arith)

-- of the values inside, where each value less than n deep has one
module _ (n : ℕ) (each : (v : Value) → depth v < n → NormalOf v) where
  item_forms : (vs : List Value) → items_deep vs ≤ n → NormalItems vs
  item_forms [] h = record { forms = []; normal = λ k d h. absurd (omega arith); alike = refl }
  item_forms (v ∷ vs) h =
      let first = each v (omega arith) in
      let rest = item_forms vs (omega arith) in
      record { forms = first.form ∷ rest.forms; normal = item_more first.form rest.forms first.normal rest.normal; alike = both _ _ first.alike rest.alike }

  row_forms : (fs : List Field) → fields_deep fs ≤ n → NormalRows fs
  row_forms [] h = record { forms = []; normal = λ k d h. absurd (omega arith); alike = refl }
  row_forms (f ∷ fs) h =
      let first = each f.value (omega arith) in
      let rest = row_forms fs (omega arith) in
      let row : Field = record { name = f.name; value = first.form } in
      record {
        forms = row ∷ rest.forms;
        normal = one_more row rest.forms first.normal rest.normal;
        alike =
            both _ _ (both _ _ (symbol_same-equiv.refl f.name) first.alike) rest.alike;
      }

  -- and of the fields of a struct
  field_forms : (fs : List Field) → fields_deep fs ≤ n → (rows : List Field) × AreNormalOf rows fs
  field_forms fs h =
      let r = row_forms fs h in
      let E = field_same same in
      let c = pointwise_counts E (field_same-equiv same same-equiv) r.forms fs r.alike in (
        sorted r.forms,
        record {
          inner = sorted_normal r.forms r.normal;
          ordered = in_order (sorted r.forms) (sorted_up r.forms);
          same = alike_from E (sorted r.forms) fs (record { at = λ x. sorted_counts E x r.forms ∙ c.at x });
        },
      )

  no_inside : (a : Layer) → items a ≡ [] → fields a ≡ [] → LayerNormal a
  no_inside a i f = (
    (λ k d h. absurd (let e = ap length i in omega (arith, h, e))),
    (λ k d h. absurd (let e = ap length f in omega (arith, h, e))),
    (λ k d low h. absurd (let e = ap length f in omega (arith, h, e))),
  )

  itself : (v : Value) (a : Layer) → out-Payload v.payload ≡ a → items a ≡ [] → fields a ≡ [] → NormalOf v
  itself v a e i f = record { form = v; normal = normal_from v (subst LayerNormal (sym e) (no_inside a i f)); alike = same-equiv.refl v }

  -- a value with other payloads inside
  with_payload : (v : Value) (p : Payload) (a b : Layer) → out-Payload v.payload ≡ a → out-Payload p ≡ b → LayerNormal b → layer_same same b a ≡ true
      → NormalOf v
  with_payload v p a b e f normal alike = record {
    form = annotated v.annotations p;
    normal = normal_from (annotated v.annotations p) (subst LayerNormal (sym f) normal);
    alike = same_payload (annotated v.annotations p) v refl
        (subst (λ x. layer_same same x (out-Payload v.payload) ≡ true) (sym f) (subst (λ y. layer_same same b y ≡ true) (sym e) alike));
  }

  at_layer : (v : Value) (a : Layer) → out-Payload v.payload ≡ a → layer_depth a ≤ n → NormalOf v
  at_layer v (Payload-F.List vs) e h =
      let r = item_forms vs (omega (arith, h, items-deep (Payload-F.List vs))) in
      with_payload v (payloads.List r.forms) (Payload-F.List vs) (Payload-F.List r.forms) e (outs-List r.forms)
      (r.normal, (λ k d h. absurd (omega arith)), (λ k d low h. absurd (omega arith))) (both _ _ r.alike refl)
  at_layer v (Payload-F.Sexp vs) e h =
      let r = item_forms vs (omega (arith, h, items-deep (Payload-F.Sexp vs))) in
      with_payload v (payloads.Sexp r.forms) (Payload-F.Sexp vs) (Payload-F.Sexp r.forms) e (outs-Sexp r.forms)
      (r.normal, (λ k d h. absurd (omega arith)), (λ k d low h. absurd (omega arith))) (both _ _ r.alike refl)
  at_layer v (Payload-F.Fields fs) e h =
      let r = field_forms fs (omega (arith, h, fields-deep (Payload-F.Fields fs))) in
      with_payload v (payloads.Fields r.0) (Payload-F.Fields fs) (Payload-F.Fields r.0) e (outs-Fields r.0)
      ((λ k d h. absurd (omega arith)), r.1.inner, r.1.ordered) r.1.same
  at_layer v a e h = itself v a e refl refl

to_level : (n : ℕ) (v : Value) → depth v < n → NormalOf v
to_level zero v h = absurd (omega arith)
to_level (suc n) v h = at_layer n (to_level n) v (out-Payload v.payload) refl (omega (arith, h, depth-out v))

-- each value has a normal form
pub normal_some : (v : Value) → NormalOf v
normal_some v = to_level (suc (depth v)) v (omega arith)

-- the fields of a struct in normal form
pub rows_some : (fs : List Field) → (rows : List Field) × AreNormalOf rows fs
rows_some fs = field_forms (fields_deep fs) (λ v h. normal_some v) fs (omega arith)
