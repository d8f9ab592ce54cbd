-- Names that have others behind them, and ids that stay.
use Rattle.std.proofs.Common.{if◌then◌else◌, ◌≡◌, ℕ, Bool, true, false, List, [], ◌∷◌, ◌++◌, Option, refl, sym, ap, ◌∙◌, append_assoc, append-nil}
use Rattle.std.specs.List.{list_any}
use Rattle.ion_names.specs.Names.{IsAmong, IsLater, Names, among_last, id_of, id_stays, symbol_same, with_name, with_names}

-- names are themselves with nothing behind them
pub later_self : (names : Names) → IsLater names names
later_self names = ([], sym (append-nil names))

pub later_trans : (a b c : Names) → IsLater a b → IsLater b c → IsLater a c
later_trans a b c f g = (f.0 ++ g.0, g.1 ∙ (ap (λ (x : Names). x ++ g.0) f.1 ∙ append_assoc a f.0 g.0))

later_if : (names : Names) (s : Option (List ℕ)) (b : Bool) → IsLater names (if b then names else names ++ s ∷ [])
later_if names s true = later_self names
later_if names s false = (s ∷ [], refl)

pub later_names : (names ss : Names) → IsLater names (with_names names ss)
later_names names [] = later_self names
later_names names (s ∷ ss) = later_trans names (with_name names s) (with_names names (s ∷ ss)) (later_if names s (list_any (symbol_same s) names))
    (later_names (with_name names s) ss)

-- names behind the names of one call are names behind those before it
pub later_by : (names ss new later : Names) → new ≡ with_names names ss → IsLater new later → IsLater names later
later_by names ss new later e h = later_trans names (with_names names ss) later (later_names names ss) (h.0, h.1 ∙ ap (λ (x : Names). x ++ h.0) e)

among_if : (names : Names) (s : Option (List ℕ)) (b : Bool) → list_any (symbol_same s) names ≡ b → IsAmong (if b then names else names ++ s ∷ []) s
among_if names s true h = h
among_if names s false h = among_last names s

-- an id stays
pub id_later : (names : Names) (s : Option (List ℕ)) (new later : Names) → new ≡ with_name names s → IsLater new later → id_of new s ≡ id_of later s
id_later names s new later e h =
    let among : IsAmong new s = rw e (among_if names s (list_any (symbol_same s) names) refl) in
    sym (rw h.1 (id_stays s new h.0 among))
