-- Parts replaced by equivalent ones, and fields put into another order.
use Rattle.std.proofs.Common.{◌≡◌, ℕ, List, Option, true, refl, sym, ap, ◌∙◌, IsPermutation}
use Rattle.std.proofs.lemmas.Cmp.{lists_equiv}
use lib.Pointwise.{pointwise}
use Rattle.ion_model.specs.Names.{Field, Layer, Payload, Value, annotated, field_same, fields_same, layer_same, same}
use Rattle.ion_atoms.specs.laws.Tests.{both}
use Rattle.ion_model.specs.declared.value.Payload.TheVariants as payloads
use Rattle.ion_model.specs.declared.value.Payload.TheViews as views
use Rattle.ion_model.specs.laws.Counts.{alike_from}
use Rattle.ion_model.specs.laws.Equivalence.{field_same-equiv, same-equiv, symbol_same-equiv}
use Rattle.ion_model.specs.laws.Same.{same-payload}
use Rattle.ion_model.proofs.NormalLaws.{fields_moved, pointwise_counts}

abbrev Symbols : Type 0
Symbols = List (Option (List ℕ))

-- two values of the same annotations, by one level of their payloads
level : (a : Symbols) (p q : Payload) (x y : Layer) → views.out-Payload p ≡ x → views.out-Payload q ≡ y → layer_same same x y ≡ true
    → same (annotated a p) (annotated a q) ≡ true
level a p q x y e f h = sym (same-payload _ _ ((lists_equiv symbol_same-equiv).refl a))
    ∙ ap (λ l. layer_same same l (views.out-Payload q)) e ∙ ap (λ l. layer_same same x l) f ∙ h

-- lists of the same annotations are equivalent, where their items are place by place
pub same-lists : (a : Symbols) (vs ws : List Value) → pointwise same vs ws ≡ true → same (annotated a (payloads.List vs)) (annotated a (payloads.List ws))
    ≡ true
same-lists a vs ws h = level a _ _ _ _ (views.outs-List vs) (views.outs-List ws) (both _ _ h refl)

-- s-expressions of the same annotations are equivalent, where their items are place by place
pub same-sexps : (a : Symbols) (vs ws : List Value) → pointwise same vs ws ≡ true → same (annotated a (payloads.Sexp vs)) (annotated a (payloads.Sexp ws))
    ≡ true
same-sexps a vs ws h = level a _ _ _ _ (views.outs-Sexp vs) (views.outs-Sexp ws) (both _ _ h refl)

-- structs of the same annotations are equivalent, where their fields are the same in some order
pub structs : (a : Symbols) (fs gs : List Field) → fields_same same fs gs ≡ true → same (annotated a (payloads.Fields fs)) (annotated a (payloads.Fields gs)) ≡ true
structs a fs gs h = level a _ _ _ _ (views.outs-Fields fs) (views.outs-Fields gs) h

-- structs of the same annotations are equivalent, where their fields are the same place by place
pub same-structs : (a : Symbols) (fs gs : List Field) → pointwise (field_same same) fs gs ≡ true
    → same (annotated a (payloads.Fields fs)) (annotated a (payloads.Fields gs)) ≡ true
same-structs a fs gs h = structs a fs gs (alike_from (field_same same) fs gs (pointwise_counts (field_same same) (field_same-equiv same same-equiv) fs gs h))

-- a struct with its fields in another order is equivalent
pub same-reordered : (a : Symbols) (fs gs : List Field) → IsPermutation fs gs → same (annotated a (payloads.Fields fs)) (annotated a (payloads.Fields gs))
    ≡ true
same-reordered a fs gs p =
    same-equiv.symm (annotated a (payloads.Fields fs)) (annotated a (payloads.Fields gs))
    ∙ structs a gs fs (fields_moved fs fs gs ((lists_equiv (field_same-equiv same same-equiv)).refl fs) p)
