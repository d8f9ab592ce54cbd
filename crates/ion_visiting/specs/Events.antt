-- What a visitor is told of a value, event by event, and from which state to which events lead it.
use Rattle.std.specs.Prelude.{◌≡◌, ℕ, List, [], ◌∷◌, ◌++◌, map, Option}
use Rattle.std.specs.List.{flat_map}
use Rattle.ion_model.specs.Measures.{Layer}
use Rattle.ion_model.specs.declared.value.Field.{Field}
use Rattle.ion_model.specs.declared.value.Payload.{Payload}
use Rattle.ion_model.specs.declared.value.Payload.TheFolds.{fold-Value}
use Rattle.ion_model.specs.declared.value.Payload.TheOpen.{Payload-F}
use Rattle.ion_model.specs.declared.value.Payload.TheVariants as payloads
use Rattle.ion_model.specs.declared.value.Value.{Value}
use Rattle.ion_visiting.specs.declared.bracket.Bracket.{Bracket}

-- A part is a null of a kind, a truth, a number, a symbol, a text or a lob. Symbols are told by their texts, or as unknown.
pub data Event : Type 0 where
  part : Payload → Event
  annotation : Option (List ℕ) → Event
  -- the name of the field whose value follows
  name : Option (List ℕ) → Event
  opens : Bracket → Event
  closes : Bracket → Event
  -- a value of the top level ended
  ended : Event

-- what stands between brackets
abbrev pub within : Bracket → List Event → List Event
within x es = opens x ∷ (es ++ closes x ∷ [])

-- what is told of one level, where `field` says what of each field and `item` what of each value inside
abbrev pub level_events : {P F V : Type 0} → (F → List Event) → (V → List Event) → Payload-F P F V → List Event
level_events field item (Payload-F.Null k) = part (payloads.Null k) ∷ []
level_events field item (Payload-F.Truth b) = part (payloads.Truth b) ∷ []
level_events field item (Payload-F.Int z) = part (payloads.Int z) ∷ []
level_events field item (Payload-F.Decimal d) = part (payloads.Decimal d) ∷ []
level_events field item (Payload-F.Timestamp t) = part (payloads.Timestamp t) ∷ []
level_events field item (Payload-F.Symbol s) = part (payloads.Symbol s) ∷ []
level_events field item (Payload-F.Str w) = part (payloads.Str w) ∷ []
level_events field item (Payload-F.Clob w) = part (payloads.Clob w) ∷ []
level_events field item (Payload-F.Blob w) = part (payloads.Blob w) ∷ []
level_events field item (Payload-F.List vs) = within Bracket.List (flat_map item vs)
level_events field item (Payload-F.Sexp vs) = within Bracket.Sexp (flat_map item vs)
level_events field item (Payload-F.Fields fs) = within Bracket.Fields (flat_map field fs)

-- where each value inside, and each field, is its events already
abbrev pub events_step : Payload-F (List Event) (List Event) (List Event) → List Event
events_step d = level_events (λ e. e) (λ e. e) d

-- what is told of a value: its annotations, and then its payload, a list, s-expression or struct between its brackets
unfoldable pub events_of : Value → List Event
events_of v =
    fold-Value (List Event) (List Event) (List Event) events_step (λ f. name f.name ∷ f.value) (λ v. map annotation v.annotations ++ v.payload) v

-- what is told of a field: its name, and then its value
abbrev pub field_events : Field → List Event
field_events f = name f.name ∷ events_of f.value

-- what is told of a payload, by one level
abbrev pub layer_events : Layer → List Event
layer_events d = level_events field_events events_of d

-- what is told of values of the top level, each of which ends
abbrev pub stream_events : List Value → List Event
stream_events vs = flat_map (λ v. events_of v ++ ended ∷ []) vs

-- Events lead from one state to another, each as `takes` says: what is proved of a visitor is proved of whoever tells it these events.
abbrev pub Led : {S : Type 0} → (S → Event → S → Type 0) → List Event → S → S → Type 0
Led takes [] a b = a ≡ b
Led {S} takes (e ∷ es) a b = (m : S) × takes a e m × Led takes es m b
