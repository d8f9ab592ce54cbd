-- What is written of a value, by one level.
use Rattle.std.proofs.Common.{◌≡◌, ℕ, List, [], ◌∷◌, ◌++◌, map, refl, ap, ◌∙◌}
use Rattle.std.specs.List.{flat_map}
use Rattle.std.proofs.lemmas.List.Folds.{flat_map-map}
use Rattle.ion_binary.specs.Names.{Field, Layer, Names, Payload, Payload-F, Value, field_octets, field_symbols, fold-Field, fold-Payload, fold_out-Field, fold_out-Payload, fold_out-Value, framed, layer_octets, layer_symbols, map-Payload, named_octets, octets_step, symbols_of, symbols_step, value_octets}
use Rattle.ion_model.specs.declared.value.Payload.TheViews as views
use Rattle.ion_binary.specs.Output.{wrapped}

-- 1. Symbols.

abbrev payload_symbols_fold : Payload → Names
payload_symbols_fold = fold-Payload Names Names Names symbols_step (λ f. f.name ∷ f.value) (λ v. v.annotations ++ v.payload)

abbrev field_symbols_fold : Field → Names
field_symbols_fold = fold-Field Names Names Names symbols_step (λ f. f.name ∷ f.value) (λ v. v.annotations ++ v.payload)

fields_symbols : (fs : List Field) → map field_symbols_fold fs ≡ map field_symbols fs
unfolding symbols_of
fields_symbols [] = refl
fields_symbols (f ∷ fs) = rw (fold_out-Field Names Names Names symbols_step (λ f. f.name ∷ f.value) (λ v. v.annotations ++ v.payload) f, fields_symbols fs)

symbols_step-layer : (d : Layer) → symbols_step (map-Payload Payload Field Value Names Names Names payload_symbols_fold field_symbols_fold symbols_of d)
    ≡ layer_symbols d
symbols_step-layer (Payload-F.List vs) = flat_map-map (λ ss. ss) symbols_of vs
symbols_step-layer (Payload-F.Sexp vs) = flat_map-map (λ ss. ss) symbols_of vs
symbols_step-layer (Payload-F.Fields fs) = ap (λ sss. flat_map (λ ss. ss) sss) (fields_symbols fs) ∙ flat_map-map (λ ss. ss) field_symbols fs
symbols_step-layer _ = refl

-- the symbols of a value by one level
pub symbols-out : (v : Value) → symbols_of v ≡ v.annotations ++ layer_symbols (views.out-Payload v.payload)
unfolding symbols_of
symbols-out v =
    fold_out-Value Names Names Names symbols_step (λ f. f.name ∷ f.value) (λ v. v.annotations ++ v.payload) v
    ∙ ap (λ ss. v.annotations ++ ss) (fold_out-Payload Names Names Names symbols_step (λ f. f.name ∷ f.value) (λ v. v.annotations ++ v.payload) v.payload
    ∙ symbols_step-layer (views.out-Payload v.payload))

-- 2. Octets.

module _ (names : Names) where
  abbrev payload_fold : Payload → List ℕ
  payload_fold = fold-Payload (List ℕ) (List ℕ) (List ℕ) (octets_step names) (λ f. named_octets names f.name f.value)
      (λ v. wrapped names v.annotations v.payload)

  abbrev field_fold : Field → List ℕ
  field_fold = fold-Field (List ℕ) (List ℕ) (List ℕ) (octets_step names) (λ f. named_octets names f.name f.value) (λ v. wrapped names v.annotations v.payload)

  fields_octets : (fs : List Field) → map field_fold fs ≡ map (field_octets names) fs
  unfolding value_octets
  fields_octets [] = refl
  fields_octets (f ∷ fs) = rw (
    fold_out-Field (List ℕ) (List ℕ) (List ℕ) (octets_step names) (λ f. named_octets names f.name f.value)
        (λ v. wrapped names v.annotations v.payload) f,
    fields_octets fs,
  )

  octets_step-layer : (d : Layer) → octets_step names (map-Payload Payload Field Value (List ℕ) (List ℕ) (List ℕ) payload_fold field_fold (value_octets names)
      d) ≡ layer_octets names d
  octets_step-layer (Payload-F.List vs) = ap (framed 11) (flat_map-map (λ w. w) (value_octets names) vs)
  octets_step-layer (Payload-F.Sexp vs) = ap (framed 12) (flat_map-map (λ w. w) (value_octets names) vs)
  octets_step-layer (Payload-F.Fields fs) = ap (framed 13) (ap (λ ws. flat_map (λ w. w) ws) (fields_octets fs) ∙ flat_map-map (λ w. w) (field_octets names) fs)
  octets_step-layer _ = refl

  -- the octets of a value by one level
  pub octets-out : (v : Value) → value_octets names v ≡ wrapped names v.annotations (layer_octets names (views.out-Payload v.payload))
  unfolding value_octets
  octets-out v =
      fold_out-Value (List ℕ) (List ℕ) (List ℕ) (octets_step names) (λ f. named_octets names f.name f.value) (λ v. wrapped names v.annotations v.payload) v
      ∙ ap (wrapped names v.annotations) (fold_out-Payload (List ℕ) (List ℕ) (List ℕ) (octets_step names) (λ f. named_octets names f.name f.value)
      (λ v. wrapped names v.annotations v.payload) v.payload ∙ octets_step-layer (views.out-Payload v.payload))
