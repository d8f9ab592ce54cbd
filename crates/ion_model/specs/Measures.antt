-- How deep a value goes, and of how many nodes it is made.
use Rattle.std.specs.Prelude.{ℕ, suc, max, ◌+◌, List, [], ◌∷◌, Option, length, map, sum}
use Rattle.ion_model.specs.declared.value.Value.{Value}
use Rattle.ion_model.specs.declared.value.Field.{Field}
use Rattle.ion_model.specs.declared.value.Payload.{Payload}
use Rattle.ion_model.specs.declared.value.Payload.TheOpen.{Payload-F}
use Rattle.ion_model.specs.declared.value.Payload.TheFolds.{fold-Value}

-- one level of a payload: which of the variants it is, with the values inside as they stand
abbrev pub Layer : Type 0
Layer = Payload-F Payload Field Value

-- a value without annotations
abbrev pub bare : Payload → Value
bare p = record { annotations = []; payload = p }

-- a value with these annotations
abbrev pub annotated : List (Option (List ℕ)) → Payload → Value
annotated a p = record { annotations = a; payload = p }

-- a field of this name
abbrev pub field_of : Option (List ℕ) → Value → Field
field_of s v = record { name = s; value = v }

-- the greatest of a list
abbrev pub greatest : List ℕ → ℕ
greatest [] = 0
greatest (n ∷ ns) = max n (greatest ns)

-- of one level, in which each value inside is its depth already
abbrev pub depth_step : Payload-F ℕ ℕ ℕ → ℕ
depth_step (Payload-F.List vs) = suc (greatest vs)
depth_step (Payload-F.Sexp vs) = suc (greatest vs)
depth_step (Payload-F.Fields fs) = suc (greatest fs)
depth_step _ = 0

-- how deep a value goes: a scalar or null has 0, a list, s-expression or struct one more than its deepest member,
-- an empty one 1
unfoldable pub depth : Value → ℕ
depth v = fold-Value ℕ ℕ ℕ depth_step (λ f. f.value) (λ v. v.payload) v

-- the same by one level
abbrev pub layer_depth : Layer → ℕ
layer_depth (Payload-F.List vs) = suc (greatest (map depth vs))
layer_depth (Payload-F.Sexp vs) = suc (greatest (map depth vs))
layer_depth (Payload-F.Fields fs) = suc (greatest (map (λ f. depth f.value) fs))
layer_depth _ = 0

-- of one level, in which each value inside is its number of nodes already
abbrev pub nodes_step : Payload-F ℕ ℕ ℕ → ℕ
nodes_step (Payload-F.List vs) = suc (sum vs)
nodes_step (Payload-F.Sexp vs) = suc (sum vs)
nodes_step (Payload-F.Fields fs) = suc (sum fs)
nodes_step _ = 1

-- how many nodes a value has: one for each value, annotation and field name in it, itself counted
unfoldable pub nodes : Value → ℕ
nodes v = fold-Value ℕ ℕ ℕ nodes_step (λ f. suc f.value) (λ v. length v.annotations + v.payload) v

-- the same by one level, but for the annotations
abbrev pub layer_nodes : Layer → ℕ
layer_nodes (Payload-F.List vs) = suc (sum (map nodes vs))
layer_nodes (Payload-F.Sexp vs) = suc (sum (map nodes vs))
layer_nodes (Payload-F.Fields fs) = suc (sum (map (λ f. suc (nodes f.value)) fs))
layer_nodes _ = 1
