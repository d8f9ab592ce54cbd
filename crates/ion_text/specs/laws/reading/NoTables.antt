-- What is no local symbol table.
use Rattle.std.proofs.Common.{◌≡◌, [], ◌∷◌, false, refl, ap}
use Rattle.std.proofs.lemmas.Bool.{and_right}
use Rattle.ion_text.specs.Names.{Number, Payload, Symbols, annotated, is_fields, is_table, layer_kind, names_table, number_payload}
use Rattle.ion_model.specs.declared.value.Payload.TheViews as views

-- what isn't of the kind of structs is none
pub no_table : (ss : Symbols) (q : Payload) → is_fields (layer_kind (views.out-Payload q)) ≡ false → is_table (annotated ss q) ≡ false
no_table [] q h = refl
no_table (s ∷ ss) q h = and_right (names_table s) (is_fields (layer_kind (views.out-Payload q))) h

-- a number is of another kind
pub flat_number : (n : Number) → is_fields (layer_kind (views.out-Payload (number_payload n))) ≡ false
flat_number (Number.Int z) = ap (λ y. is_fields (layer_kind y)) (views.outs-Int z)
flat_number (Number.Decimal d) = ap (λ y. is_fields (layer_kind y)) (views.outs-Decimal d)
flat_number (Number.Timestamp t) = ap (λ y. is_fields (layer_kind y)) (views.outs-Timestamp t)
