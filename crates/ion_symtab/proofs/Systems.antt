-- The slots of a context by id, and the symbols of the system slots.
use Rattle.std.proofs.Common.{◌≡◌, ◌≢◌, ℕ, zero, suc, ◌<◌, ◌≤◌, ◌+◌, ◌-◌, Option, None, Some, Ok, List, [], ◌∷◌, ◌++◌, map, length, take, drop, slice_get, option_map, Bor, refl, ap, sym, ◌∙◌, arith}
use Rattle.std.specs.Prelude.{IfSome, MatchOption}
use Rattle.std.specs.List.{HoldsAt}
use Rattle.std.proofs.lemmas.List.{length-map, length-take-le, take-append-drop}
use Rattle.std.proofs.lemmas.Option.{slice_get-map, slice_get_read}
use Rattle.std.proofs.lemmas.Bool.{cond-false, ne_eqb}
use Rattle.ion_symtab.specs.Names.{Slot, local_slot, nine_system_slots, resolve, slot_symbol, symbol_at, system_slots}
use Rattle.ion_symtab.specs.kept.Segments.{Indexes}
use Rattle.ion_symtab.specs.laws.Contexts.{slice_get-append_left}

-- a place behind the first of two lists has an item of the second
pub slice_get-append_right : {X : Type 0} (xs ys : List X) (i j : ℕ) → i ≡ length xs + j → slice_get (xs ++ ys) i ≡ slice_get ys j
slice_get-append_right [] ys i j h = let e : i ≡ j = omega arith in ap (slice_get ys) e
slice_get-append_right (x ∷ xs) ys zero j h = absurd (omega arith)
slice_get-append_right (x ∷ xs) ys (suc i) j h = slice_get-append_right xs ys i j (omega arith)

-- nine symbols are kept
pub nine_symbols : (symbols : List (Option (List ℕ))) → map local_slot symbols ≡ system_slots → length symbols ≡ 9
nine_symbols symbols e = omega (arith, length-map symbols local_slot, ap length e, nine_system_slots)

-- an id that isn't 0 is a place and one
resolve_place : (slots : List Slot) (id : ℕ) → id ≢ 0 → resolve slots id ≡ symbol_at (slice_get slots (id - 1))
unfolding resolve
resolve_place slots id h = cond-false _ _ _ (ne_eqb id 0 h)

-- a symbol of a local table gives itself
slot_symbol-local : (s : Option (List ℕ)) → slot_symbol (local_slot s) ≡ Ok s
slot_symbol-local None = refl
slot_symbol-local (Some t) = refl

-- the symbol of an id among those that stand by their ids
pub resolve_indexed : (slots : List Slot) (from id : ℕ) (symbols : List (Option (List ℕ))) (r : Option (Bor (Option (List ℕ)))) → Indexes slots from symbols
    → from < id →
    MatchOption r (length symbols ≤ id - 1 - from) (λ x. (id - 1 - from < length symbols) × HoldsAt (λ y. x.now ≡ y) symbols (id - 1 - from)) →
    IfSome r (λ x. resolve slots id ≡ Ok x.now)
resolve_indexed slots from id symbols None i b m = record {}
resolve_indexed slots from id symbols (Some x) i b m =
    let n = length symbols in
    let behind : id - 1 ≡ length (take from slots) + (id - 1 - from) = omega (arith, length-take-le from slots i.within, b) in
    let near : id - 1 - from < length (take n (drop from slots)) = omega (arith, m.0, ap length i.are, length-map symbols local_slot) in
    resolve_place slots id (omega (arith, b))
    ∙ ap symbol_at (ap (λ xs. slice_get xs (id - 1)) (sym (take-append-drop from slots))
    ∙ slice_get-append_right (take from slots) (drop from slots) (id - 1) (id - 1 - from) behind
    ∙ ap (λ xs. slice_get xs (id - 1 - from)) (sym (take-append-drop n (drop from slots)))
    ∙ slice_get-append_left (take n (drop from slots)) (drop n (drop from slots)) (id - 1 - from) near
    ∙ ap (λ xs. slice_get xs (id - 1 - from)) (sym i.are) ∙ slice_get-map local_slot symbols (id - 1 - from)
    ∙ ap (λ o. option_map local_slot o) (slice_get_read symbols n (id - 1 - from) x.now refl m.0 (m.1 x.now)))
    ∙ slot_symbol-local x.now
