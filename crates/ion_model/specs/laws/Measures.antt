-- Depth and nodes by one level, and of a list that grows.
use Rattle.std.proofs.Common.{sum, length, get_or, ◌≡◌, ℕ, ◌+◌, ◌≤◌, ◌<◌, zero, suc, max, map, List, [], ◌∷◌, ◌++◌, Bool, ℤ, refl, ap, ◌∙◌, arith}
use Rattle.std.specs.List.{sum_by}
use Rattle.std.proofs.lemmas.List.Sums.{sum-map, sum_by-append, sum_by-cons}
use Rattle.ion_model.specs.Names.{Field, Kind, Layer, Payload, Payload-F, Value, bare, depth, depth_step, fold-Field, fold-Payload, fold_out-Field, fold_out-Payload, fold_out-Value, greatest, map-Payload, nodes, nodes_step}
pub use Rattle.ion_model.specs.Measures.{layer_depth, layer_nodes}
use Rattle.ion_model.specs.declared.value.Payload.TheVariants as payloads
use Rattle.ion_model.specs.declared.value.Payload.TheViews as views

abbrev payload_depth : Payload → ℕ
payload_depth = fold-Payload ℕ ℕ ℕ depth_step (λ f. f.value) (λ v. v.payload)

abbrev field_depth : Field → ℕ
field_depth = fold-Field ℕ ℕ ℕ depth_step (λ f. f.value) (λ v. v.payload)

field_depths : (fs : List Field) → map field_depth fs ≡ map (λ f. depth f.value) fs
unfolding depth
field_depths [] = refl
field_depths (f ∷ fs) = rw (fold_out-Field ℕ ℕ ℕ depth_step (λ f. f.value) (λ v. v.payload) f, field_depths fs)

depth_step-layer : (d : Layer) → depth_step (map-Payload Payload Field Value ℕ ℕ ℕ payload_depth field_depth depth d) ≡ layer_depth d
depth_step-layer (Payload-F.Fields fs) = ap (λ ns. suc (greatest ns)) (field_depths fs)
depth_step-layer _ = refl

-- the depth by one level
pub depth-out : (v : Value) → depth v ≡ layer_depth (views.out-Payload v.payload)
unfolding depth
depth-out v = fold_out-Value ℕ ℕ ℕ depth_step (λ f. f.value) (λ v. v.payload) v ∙ fold_out-Payload ℕ ℕ ℕ depth_step (λ f. f.value) (λ v. v.payload) v.payload
    ∙ depth_step-layer _

-- the same of any value whose payload is known
pub depth-at : (v : Value) (p : Payload) → v.payload ≡ p → depth v ≡ layer_depth (views.out-Payload p)
depth-at v p e = depth-out v ∙ ap (λ p. layer_depth (views.out-Payload p)) e

-- a list goes one deeper than its deepest item
pub depth-at-List : (v : Value) (vs : List Value) → v.payload ≡ payloads.List vs → depth v ≡ suc (greatest (map depth vs))
depth-at-List v vs e = depth-at v _ e ∙ ap layer_depth (views.outs-List vs)

-- an s-expression goes one deeper than its deepest item
pub depth-at-Sexp : (v : Value) (vs : List Value) → v.payload ≡ payloads.Sexp vs → depth v ≡ suc (greatest (map depth vs))
depth-at-Sexp v vs e = depth-at v _ e ∙ ap layer_depth (views.outs-Sexp vs)

-- a struct goes one deeper than the deepest value of its fields
pub depth-at-Fields : (v : Value) (fs : List Field) → v.payload ≡ payloads.Fields fs → depth v ≡ suc (greatest (map (λ f. depth f.value) fs))
depth-at-Fields v fs e = depth-at v _ e ∙ ap layer_depth (views.outs-Fields fs)

-- how deep values go that hold others
pub ruleset depths = (depth-at-List, depth-at-Sexp, depth-at-Fields)

-- a null without annotations is 0 deep
pub depth-Null : (k : Kind) → depth (bare (payloads.Null k)) ≡ 0
depth-Null k = depth-out (bare (payloads.Null k)) ∙ ap layer_depth (views.outs-Null k)

-- a bool without annotations is 0 deep
pub depth-Truth : (b : Bool) → depth (bare (payloads.Truth b)) ≡ 0
depth-Truth b = depth-out (bare (payloads.Truth b)) ∙ ap layer_depth (views.outs-Truth b)

-- an int without annotations is 0 deep
pub depth-Int : (z : ℤ) → depth (bare (payloads.Int z)) ≡ 0
depth-Int z = depth-out (bare (payloads.Int z)) ∙ ap layer_depth (views.outs-Int z)

-- a list without annotations goes one deeper than its deepest item
pub depth-List : (vs : List Value) → depth (bare (payloads.List vs)) ≡ suc (greatest (map depth vs))
depth-List vs = depth-at-List (bare (payloads.List vs)) vs refl

-- the deepest of a list and one more
pub deepest-more : (vs : List Value) (v : Value) → greatest (map depth (vs ++ v ∷ [])) ≡ max (greatest (map depth vs)) (depth v)
deepest-more [] v = omega arith
deepest-more (w ∷ vs) v = omega (arith, deepest-more vs v)

-- an item is no greater than the greatest
pub greatest-at : {A : Type 0} (f : A → ℕ) (xs : List A) (i : ℕ) (x : A) → i < length xs → x ≡ get_or xs i x → f x ≤ greatest (map f xs)
greatest-at f [] i x h e = absurd (omega arith)
greatest-at f (y ∷ ys) zero x h e = omega (arith, ap f e)
greatest-at f (y ∷ ys) (suc i) x h e = omega (arith, greatest-at f ys i x (omega arith) e)

abbrev payload_nodes : Payload → ℕ
payload_nodes = fold-Payload ℕ ℕ ℕ nodes_step (λ f. suc f.value) (λ v. length v.annotations + v.payload)

abbrev field_nodes : Field → ℕ
field_nodes = fold-Field ℕ ℕ ℕ nodes_step (λ f. suc f.value) (λ v. length v.annotations + v.payload)

fields_nodes : (fs : List Field) → map field_nodes fs ≡ map (λ f. suc (nodes f.value)) fs
unfolding nodes
fields_nodes [] = refl
fields_nodes (f ∷ fs) = rw (fold_out-Field ℕ ℕ ℕ nodes_step (λ f. suc f.value) (λ v. length v.annotations + v.payload) f, fields_nodes fs)

nodes_step-layer : (d : Layer) → nodes_step (map-Payload Payload Field Value ℕ ℕ ℕ payload_nodes field_nodes nodes d) ≡ layer_nodes d
nodes_step-layer (Payload-F.Fields fs) = ap (λ ns. suc (sum ns)) (fields_nodes fs)
nodes_step-layer _ = refl

-- the nodes by one level
pub nodes-out : (v : Value) → nodes v ≡ length v.annotations + layer_nodes (views.out-Payload v.payload)
unfolding nodes
nodes-out v =
    fold_out-Value ℕ ℕ ℕ nodes_step (λ f. suc f.value) (λ v. length v.annotations + v.payload) v
    ∙ ap (λ n. length v.annotations + n) (fold_out-Payload ℕ ℕ ℕ nodes_step (λ f. suc f.value) (λ v. length v.annotations + v.payload) v.payload
    ∙ nodes_step-layer (views.out-Payload v.payload))

-- the same of any value whose payload is known
nodes-at : (v : Value) (p : Payload) (d : Layer) → v.payload ≡ p → views.out-Payload p ≡ d → nodes v ≡ length v.annotations + layer_nodes d
nodes-at v p d e f = nodes-out v ∙ ap (λ p. length v.annotations + layer_nodes (views.out-Payload p)) e ∙ ap (λ d. length v.annotations + layer_nodes d) f

-- the nodes of a list: its annotations, itself, and those of its items
pub nodes-at-List : (v : Value) (vs : List Value) → v.payload ≡ payloads.List vs → nodes v ≡ length v.annotations + suc (sum (map nodes vs))
nodes-at-List v vs e = nodes-at v _ _ e (views.outs-List vs)

-- the nodes of an s-expression: its annotations, itself, and those of its items
pub nodes-at-Sexp : (v : Value) (vs : List Value) → v.payload ≡ payloads.Sexp vs → nodes v ≡ length v.annotations + suc (sum (map nodes vs))
nodes-at-Sexp v vs e = nodes-at v _ _ e (views.outs-Sexp vs)

-- the nodes of a struct: its annotations, itself, and for each field its name and those of its value
pub nodes-at-Fields : (v : Value) (fs : List Field) → v.payload ≡ payloads.Fields fs
    → nodes v ≡ length v.annotations + suc (sum (map (λ f. suc (nodes f.value)) fs))
nodes-at-Fields v fs e = nodes-at v _ _ e (views.outs-Fields fs)

-- the nodes of values that hold others
pub ruleset node_counts = (nodes-at-List, nodes-at-Sexp, nodes-at-Fields)

-- the nodes of a value without annotations
pub nodes-bare : (p : Payload) (d : Layer) → views.out-Payload p ≡ d → nodes (bare p) ≡ layer_nodes d
nodes-bare p d e = let n = nodes-out (bare p) in let k : layer_nodes (views.out-Payload p) ≡ layer_nodes d = ap layer_nodes e in omega arith

-- a null without annotations is one node
pub nodes-Null : (k : Kind) → nodes (bare (payloads.Null k)) ≡ 1
nodes-Null k = nodes-bare (payloads.Null k) _ (views.outs-Null k)

-- a bool without annotations is one node
pub nodes-Truth : (b : Bool) → nodes (bare (payloads.Truth b)) ≡ 1
nodes-Truth b = nodes-bare (payloads.Truth b) _ (views.outs-Truth b)

-- the nodes of a list and one more
pub nodes-more : (vs : List Value) (v : Value) → sum (map nodes (vs ++ v ∷ [])) ≡ sum (map nodes vs) + nodes v
nodes-more vs v =
    let all = sum-map nodes (vs ++ v ∷ []) in
    let front = sum-map nodes vs in
    let cut = sum_by-append nodes vs (v ∷ []) in
    let one = sum_by-cons nodes v [] in
    let none : sum_by nodes [] ≡ 0 = refl in
    omega arith
