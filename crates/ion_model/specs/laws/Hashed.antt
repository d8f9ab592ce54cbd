-- Values that are equal feed a hasher alike; and what a value feeds, by one level.
use Rattle.std.proofs.Common.{◌≡◌, suc, List, [], ◌∷◌, ◌++◌, map, length, flat_map, true, refl, ap, ◌∙◌}
use Rattle.std.specs.Hash as fed
use Rattle.std.specs.Hash.{HashWrites}
use Rattle.std.specs.Ordering.{is_eq}
use Rattle.ion_model.specs.Names.{Field, Kind, Layer, Payload, Payload-F, Value, fold-Field, fold-Payload, fold_out-Field, fold_out-Payload, fold_out-Value, map-Payload, order}
use Rattle.ion_atoms.specs.laws.Ties.{tie_from_is_eq}
use Rattle.ion_model.specs.Hashed.{field_hashed, hashed, hashed_step, head_fed, layer_fed, symbol_fed}
use Rattle.ion_model.specs.declared.value.Payload.TheViews as views
use Rattle.ion_model.specs.laws.OrderEqual.{equal_from_order}

-- values that tie in the order feed a hasher alike
pub values_alike : (v w : Value) → is_eq (order v w) ≡ true → hashed v ≡ hashed w
values_alike v w h = ap hashed (equal_from_order v w (tie_from_is_eq (order v w) h))

abbrev payload_hashed : Payload → HashWrites
payload_hashed = fold-Payload HashWrites HashWrites HashWrites hashed_step (λ f. symbol_fed f.name ++ f.value)
    (λ v. fed.slice symbol_fed v.annotations ++ v.payload)

abbrev field_folded : Field → HashWrites
field_folded = fold-Field HashWrites HashWrites HashWrites hashed_step (λ f. symbol_fed f.name ++ f.value)
    (λ v. fed.slice symbol_fed v.annotations ++ v.payload)

field_folded-is : (f : Field) → field_folded f ≡ field_hashed f
unfolding hashed
field_folded-is f = fold_out-Field HashWrites HashWrites HashWrites hashed_step (λ f. symbol_fed f.name ++ f.value)
    (λ v. fed.slice symbol_fed v.annotations ++ v.payload) f

-- members that were replaced by what they feed
each_fed : {X : Type 0} (F G : X → HashWrites) → ((x : X) → F x ≡ G x) → (xs : List X) → flat_map (λ w. w) (map F xs) ≡ flat_map G xs
each_fed F G same [] = refl
each_fed F G same (x ∷ xs) = ap (λ w. w ++ flat_map (λ w. w) (map F xs)) (same x) ∙ ap (λ ws. G x ++ ws) (each_fed F G same xs)

as_many : {X : Type 0} (F : X → HashWrites) (xs : List X) → length (map F xs) ≡ length xs
as_many F [] = refl
as_many F (x ∷ xs) = ap suc (as_many F xs)

members_fed : {X : Type 0} (F G : X → HashWrites) → ((x : X) → F x ≡ G x) → (xs : List X) → fed.slice (λ w. w) (map F xs) ≡ fed.slice G xs
members_fed F G same xs = ap (λ n. fed.usize n ++ flat_map (λ w. w) (map F xs)) (as_many F xs) ∙ ap (λ ws. fed.usize (length xs) ++ ws) (each_fed F G same xs)

hashed_step-layer : (d : Layer) → hashed_step (map-Payload Payload Field Value HashWrites HashWrites HashWrites payload_hashed field_folded hashed d)
    ≡ layer_fed field_hashed hashed d
hashed_step-layer (Payload-F.List vs) = ap (λ ws. head_fed Kind.List true ++ ws) (members_fed hashed hashed (λ v. refl) vs)
hashed_step-layer (Payload-F.Sexp vs) = ap (λ ws. head_fed Kind.Sexp true ++ ws) (members_fed hashed hashed (λ v. refl) vs)
hashed_step-layer (Payload-F.Fields fs) = ap (λ ws. head_fed Kind.Fields true ++ ws) (members_fed field_folded field_hashed field_folded-is fs)
hashed_step-layer _ = refl

-- what a value feeds by one level
pub hashed-out : (v : Value) → hashed v ≡ fed.slice symbol_fed v.annotations ++ layer_fed field_hashed hashed (views.out-Payload v.payload)
unfolding hashed
hashed-out v =
    fold_out-Value HashWrites HashWrites HashWrites hashed_step (λ f. symbol_fed f.name ++ f.value) (λ v. fed.slice symbol_fed v.annotations ++ v.payload) v
    ∙ ap (λ ws. fed.slice symbol_fed v.annotations ++ ws) (fold_out-Payload HashWrites HashWrites HashWrites hashed_step (λ f. symbol_fed f.name ++ f.value)
    (λ v. fed.slice symbol_fed v.annotations ++ v.payload) v.payload ∙ hashed_step-layer (views.out-Payload v.payload))
