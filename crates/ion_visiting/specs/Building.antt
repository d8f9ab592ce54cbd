-- The visitor that builds values.
use Rattle.std.specs.Prelude.{◌≡◌, ℕ, List, [], ◌∷◌, ◌++◌, Option, Some, None}
use Rattle.ion_model.specs.Measures.{annotated, field_of}
use Rattle.ion_model.specs.declared.value.Payload.{Payload}
use Rattle.ion_model.specs.declared.value.Payload.TheVariants as payloads
use Rattle.ion_model.specs.declared.value.Value.{Value}
use Rattle.ion_visiting.specs.Events.{Event, annotation, closes, ended, name, opens, part}
use Rattle.ion_visiting.specs.declared.bracket.Bracket.{Bracket}
use Rattle.ion_visiting.specs.declared.building.Open.{Open}
use Rattle.ion_visiting.specs.declared.building.Outer.{Outer}

-- what is built so far: the annotations of the value that comes, its place, and what stands around that, the innermost first
pub record Built : Type 0 where
  pub notes : List (Option (List ℕ))
  pub place : Open
  pub outer : List Outer

-- nothing yet
abbrev pub fresh : Built
fresh = record { notes = []; place = Open.Top None; outer = [] }

-- a value put into a place: at the top level it is what came, in a list or an s-expression the last item, in a struct the last field, of
-- the name that came before it
abbrev pub with_value : Open → Value → Open
with_value (Open.Top o) v = Open.Top (Some v)
with_value (Open.Items vs) v = Open.Items (vs ++ v ∷ [])
with_value (Open.Fields ms (Some s)) v = Open.Fields (ms ++ field_of s v ∷ []) None
with_value (Open.Fields ms None) v = Open.Fields ms None

-- the name of a field put into a place: in a struct it is that of the value that comes
abbrev pub with_name : Open → Option (List ℕ) → Open
with_name (Open.Fields ms o) s = Open.Fields ms (Some s)
with_name place s = place

-- a list, an s-expression or a struct of nothing yet
abbrev pub opened : Bracket → Open
opened Bracket.Fields = Open.Fields [] None
opened _ = Open.Items []

-- the list, s-expression or struct of what came
abbrev pub closed : Bracket → Open → Option Payload
closed Bracket.List (Open.Items vs) = Some (payloads.List vs)
closed Bracket.Sexp (Open.Items vs) = Some (payloads.Sexp vs)
closed Bracket.Fields (Open.Fields ms o) = Some (payloads.Fields ms)
closed _ _ = None

-- the value of the top level, if it came
abbrev pub value_in : Open → Option Value
value_in (Open.Top o) = o
value_in _ = None

-- no value of the top level
abbrev pub without_value : Open → Open
without_value (Open.Top o) = Open.Top None
without_value place = place

-- a payload is put into its place as the value of the annotations before it, of which none are left
abbrev pub with_payload : Built → Payload → Built
with_payload a p = record { notes = []; place = with_value a.place (annotated a.notes p); outer = a.outer }

-- what came of a container is put into the place around it, as the value of the annotations before its front
abbrev pub with_closed : Built → Option Payload → List Outer → Built
with_closed a (Some p) (o ∷ os) = record { notes = a.notes; place = with_value o.place (annotated o.notes p); outer = os }
with_closed a _ _ = a

abbrev pub built : Built → Event → Built
built a (part p) = with_payload a p
built a (annotation s) = record { notes = a.notes ++ s ∷ []; place = a.place; outer = a.outer }
built a (name s) = record { notes = a.notes; place = with_name a.place s; outer = a.outer }
built a (opens x) = record { notes = []; place = opened x; outer = record { place = a.place; notes = a.notes } ∷ a.outer }
built a (closes x) = with_closed a (closed x a.place) a.outer
built a ended = a

abbrev pub builds : Built → Event → Built → Type 0
builds a e b = b ≡ built a e
