-- The text of a value, by one level.
use Rattle.std.proofs.Common.{◌≡◌, ℕ, Option, List, [], ◌∷◌, ◌++◌, map, refl, ap, ◌∙◌}
use Rattle.std.specs.Prelude.{codes}
use Rattle.ion_spelling.specs.Names.{Field, Layer, Payload, Payload-F, Value, annotated, enclosed, field_text, fold-Field, fold-Payload, fold_out-Field, fold_out-Payload, fold_out-Value, layer_text, map-Payload, named_text, notes_text, text_step, value_text}
use Rattle.ion_model.specs.declared.value.Payload.TheViews as views

abbrev payload_fold : Payload → List ℕ
payload_fold = fold-Payload (List ℕ) (List ℕ) (List ℕ) text_step (λ f. named_text f.name f.value) (λ v. notes_text v.annotations ++ v.payload)

abbrev field_fold : Field → List ℕ
field_fold = fold-Field (List ℕ) (List ℕ) (List ℕ) text_step (λ f. named_text f.name f.value) (λ v. notes_text v.annotations ++ v.payload)

fields_text : (fs : List Field) → map field_fold fs ≡ map field_text fs
unfolding value_text
fields_text [] = refl
fields_text (f ∷ fs) = rw (
  fold_out-Field (List ℕ) (List ℕ) (List ℕ) text_step (λ f. named_text f.name f.value) (λ v. notes_text v.annotations ++ v.payload) f,
  fields_text fs,
)

text_step-layer : (d : Layer) → text_step (map-Payload Payload Field Value (List ℕ) (List ℕ) (List ℕ) payload_fold field_fold value_text d) ≡ layer_text d
text_step-layer (Payload-F.Fields fs) = ap (enclosed (codes "{") (codes ",") (codes "}")) (fields_text fs)
text_step-layer _ = refl

-- the text of a value by one level
pub text-out : (v : Value) → value_text v ≡ notes_text v.annotations ++ layer_text (views.out-Payload v.payload)
unfolding value_text
text-out v =
    fold_out-Value (List ℕ) (List ℕ) (List ℕ) text_step (λ f. named_text f.name f.value) (λ v. notes_text v.annotations ++ v.payload) v
    ∙ ap (λ w. notes_text v.annotations ++ w) (fold_out-Payload (List ℕ) (List ℕ) (List ℕ) text_step (λ f. named_text f.name f.value)
    (λ v. notes_text v.annotations ++ v.payload) v.payload ∙ text_step-layer (views.out-Payload v.payload))

-- the same, where it is known which level it is
pub text_layer : (ss : List (Option (List ℕ))) (p : Payload) (d : Layer) → views.out-Payload p ≡ d → value_text (annotated ss p) ≡ notes_text ss ++ layer_text d
text_layer ss p d e = text-out (annotated ss p) ∙ ap (λ (x : Layer). notes_text ss ++ layer_text x) e
