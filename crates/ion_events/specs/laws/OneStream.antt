-- A layout has one stream of values, which are such as the types keep.
use Rattle.std.proofs.Common.{◌≡◌, ℕ, List, [], ◌∷◌, ◌++◌, map, refl, sym, ◌∙◌}
use Rattle.std.specs.List.{flat_map}
use Rattle.ion_visiting.specs.laws.Built.{events_one}
use Rattle.ion_visiting.specs.laws.KeptEvents.{led_kept, value_kept}
use Rattle.ion_visiting.specs.laws.Led.{events_out}
use Rattle.ion_events.specs.Layouts.{LaysStream, begin, finish, lays_one}
use Rattle.ion_events.specs.Names.Below.{AreKept, AreKeptEvents, Event, Layer, Payload-F, Value, annotation, events_of, layer_events, out-Payload}
use Rattle.ion_events.specs.laws.OneList.{lays_one_list}

-- a value has an event
some_layer : (d : Layer) → layer_events d ≡ [] → ⊥
some_layer (Payload-F.List vs) h = absurd cc
some_layer _ h = absurd cc

behind_none : (es fs : List Event) → es ++ fs ≡ [] → fs ≡ []
behind_none [] fs h = h
behind_none (e ∷ es) fs h = absurd cc

some_event : (v : Value) (es : List Event) → events_of v ++ es ≡ [] → ⊥
some_event v es h =
    some_layer (out-Payload v.payload) (behind_none (map annotation v.annotations) _ (sym (events_out v) ∙ front_none (events_of v) es h))
  where
    front_none : (es fs : List Event) → es ++ fs ≡ [] → es ≡ []
    front_none [] fs h = refl
    front_none (e ∷ es) fs h = absurd cc

-- events of values are those of one stream
values_one : (s t : List Value) → flat_map events_of s ≡ flat_map events_of t → s ≡ t
values_one [] [] h = refl
values_one (v ∷ s) (w ∷ t) h = let k = events_one v w (flat_map events_of s) (flat_map events_of t) h in λ i. k.0 i ∷ values_one s t k.1 i
values_one [] (w ∷ t) h = absurd (some_event w (flat_map events_of t) (sym h))
values_one (v ∷ s) [] h = absurd (some_event v (flat_map events_of s) h)

pub lays_one_stream : (s t : List Value) (o : List ℕ) → LaysStream s o → LaysStream t o → s ≡ t
lays_one_stream s t o h k = values_one s t (lays_one_list (flat_map events_of s) (flat_map events_of t) o h k)

kept_split : (es fs : List Event) → AreKeptEvents (es ++ fs) → AreKeptEvents es × AreKeptEvents fs
kept_split [] fs h = (tt, h)
kept_split (e ∷ es) fs h = let k = kept_split es fs h.1 in ((h.0, k.0), k.1)

values_kept : (s : List Value) → AreKeptEvents (flat_map events_of s) → AreKept s
values_kept [] h = tt
values_kept (v ∷ s) h = let k = kept_split (events_of v) (flat_map events_of s) h in (value_kept v k.0, values_kept s k.1)

pub lays_kept : (s : List Value) (o : List ℕ) → LaysStream s o → AreKept s
lays_kept s o h = values_kept s (led_kept (lays_one o) (λ a b e k. k.0) (flat_map events_of s) begin (finish o) h.led)
