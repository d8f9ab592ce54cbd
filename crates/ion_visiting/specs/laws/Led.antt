-- Events one behind the other, and what is told of a value by one level.
use Rattle.std.proofs.Common.{◌≡◌, List, [], ◌∷◌, ◌++◌, map, refl, ap, sym, subst, ◌∙◌}
use Rattle.std.specs.List.{flat_map}
use Rattle.std.proofs.lemmas.List.Folds.{flat_map-map}
use Rattle.ion_visiting.specs.Names.{Bracket, Event, Field, Layer, Led, Payload, Payload-F, Value, annotation, events_of, events_step, field_events, fold-Field, fold-Payload, fold_out-Field, fold_out-Payload, fold_out-Value, layer_events, map-Payload, name, within}
use Rattle.ion_model.specs.declared.value.Payload.TheViews as views

-- 1. Of events one behind the other.

-- events behind others lead on
pub led_both : {S : Type 0} (takes : S → Event → S → Type 0) (es fs : List Event) (a m b : S) → Led takes es a m → Led takes fs m b → Led takes (es ++ fs) a b
led_both takes [] fs a m b h k = subst (λ x. Led takes fs x b) (sym h) k
led_both takes (e ∷ es) fs a m b h k = (h.0, h.1, led_both takes es fs h.0 m b h.2 k)

-- where the first of events led to
pub led_split : {S : Type 0} (takes : S → Event → S → Type 0) (es fs : List Event) (a b : S) → Led takes (es ++ fs) a b
    → (m : S) × Led takes es a m × Led takes fs m b
led_split takes [] fs a b h = (a, refl, h)
led_split takes (e ∷ es) fs a b h = let s = led_split takes es fs h.0 b h.2 in (s.0, (h.0, h.1, s.1), s.2)

-- one event more
pub led_more : {S : Type 0} (takes : S → Event → S → Type 0) (es : List Event) (e : Event) (a m b : S) → Led takes es a m → takes m e b
    → Led takes (es ++ e ∷ []) a b
led_more takes es e a m b h k = led_both takes es (e ∷ []) a m b h (b, k, refl)

-- 2. Of a value, by one level.

abbrev payload_fold : Payload → List Event
payload_fold = fold-Payload (List Event) (List Event) (List Event) events_step (λ f. name f.name ∷ f.value) (λ v. map annotation v.annotations ++ v.payload)

abbrev field_fold : Field → List Event
field_fold = fold-Field (List Event) (List Event) (List Event) events_step (λ f. name f.name ∷ f.value) (λ v. map annotation v.annotations ++ v.payload)

fields_fold : (fs : List Field) → map field_fold fs ≡ map field_events fs
unfolding events_of
fields_fold [] = refl
fields_fold (f ∷ fs) = rw (
  fold_out-Field (List Event) (List Event) (List Event) events_step (λ f. name f.name ∷ f.value) (λ v. map annotation v.annotations ++ v.payload) f,
  fields_fold fs,
)

step_layer : (d : Layer) → events_step (map-Payload Payload Field Value (List Event) (List Event) (List Event) payload_fold field_fold events_of d)
    ≡ layer_events d
step_layer (Payload-F.List vs) = ap (within Bracket.List) (flat_map-map (λ e. e) events_of vs)
step_layer (Payload-F.Sexp vs) = ap (within Bracket.Sexp) (flat_map-map (λ e. e) events_of vs)
step_layer (Payload-F.Fields fs) =
    ap (λ es. within Bracket.Fields (flat_map (λ e. e) es)) (fields_fold fs) ∙ ap (within Bracket.Fields) (flat_map-map (λ e. e) field_events fs)
step_layer _ = refl

-- what is told of a value: its annotations, and then the level that its payload is
pub events_out : (v : Value) → events_of v ≡ map annotation v.annotations ++ layer_events (views.out-Payload v.payload)
unfolding events_of
events_out v =
    fold_out-Value (List Event) (List Event) (List Event) events_step (λ f. name f.name ∷ f.value) (λ v. map annotation v.annotations ++ v.payload) v
    ∙ ap (λ es. map annotation v.annotations ++ es) (fold_out-Payload (List Event) (List Event) (List Event) events_step (λ f. name f.name ∷ f.value)
    (λ v. map annotation v.annotations ++ v.payload) v.payload ∙ step_layer (views.out-Payload v.payload))
