-- Symbols among names, and their ids.
use Rattle.std.proofs.Common.{cond, not, ◌≡◌, ℕ, ◌+◌, ◌≤◌, ◌||◌, Bool, true, false, List, [], ◌∷◌, ◌++◌, length, Option, None, Some, refl, ap, ◌∙◌}
use Rattle.std.specs.List.{list_any}
use Rattle.std.proofs.lemmas.List.Folds.{list_any-append}
use Rattle.std.proofs.lemmas.List.Sums.{prefix_len-le-length}
use Rattle.std.proofs.lemmas.Slice.Eq.{bytes_eq-Decides}
use Rattle.ion_model.specs.Symbols.{symbol_same}
use Rattle.ion_names.specs.Ids.{Names, id_of}

pub same_is_equal : (s t : Option (List ℕ)) → symbol_same s t ≡ true → s ≡ t
same_is_equal None None h = refl
same_is_equal (Some s) (Some t) h = ap Some ((bytes_eq-Decides s t).0 h)
same_is_equal _ _ h = cc

pub symbol_self : (s : Option (List ℕ)) → symbol_same s s ≡ true
symbol_self None = refl
symbol_self (Some s) = (bytes_eq-Decides s s).1 refl

-- the symbol is one of the names
abbrev pub IsAmong : Names → Option (List ℕ) → Type 0
IsAmong names s = list_any (symbol_same s) names ≡ true

-- each of the symbols is one of the names
abbrev pub AreAmong : Names → Names → Type 0
AreAmong names [] = Unit {0}
AreAmong names (s ∷ ss) = IsAmong names s × AreAmong names ss

pub among_more : (names more : Names) (s : Option (List ℕ)) → IsAmong names s → IsAmong (names ++ more) s
among_more names more s h = list_any-append (symbol_same s) names more ∙ rw h refl

-- symbols among names are among these with more behind them
pub all_among_more : (names more ss : Names) → AreAmong names ss → AreAmong (names ++ more) ss
all_among_more names more [] h = tt
all_among_more names more (s ∷ ss) h = (among_more names more s h.0, all_among_more names more ss h.1)

or_true : (b : Bool) → (b || true) ≡ true
or_true true = refl
or_true false = refl

-- the last of the names is among them
pub among_last : (names : Names) (s : Option (List ℕ)) → IsAmong (names ++ s ∷ []) s
among_last names s = list_any-append (symbol_same s) names (s ∷ []) ∙ rw (symbol_self s) (or_true (list_any (symbol_same s) names))

-- no id is greater than the number of names
pub id_few : (names : Names) (s : Option (List ℕ)) → id_of names s ≤ length names
id_few names s = prefix_len-le-length (λ x. not (symbol_same s x)) names

stays_either : (s : Option (List ℕ)) (names more : Names) (b : Bool) → (b || list_any (symbol_same s) names) ≡ true
    → (IsAmong names s → id_of (names ++ more) s ≡ id_of names s) → cond (not b) (1 + id_of (names ++ more) s) 0 ≡ cond (not b) (1 + id_of names s) 0
stays_either s names more true h later = refl
stays_either s names more false h later = ap (λ (n : ℕ). 1 + n) (later h)

-- and keeps it
pub id_stays : (s : Option (List ℕ)) (names more : Names) → IsAmong names s → id_of (names ++ more) s ≡ id_of names s
id_stays s [] more h = cc
id_stays s (x ∷ names) more h = stays_either s names more (symbol_same s x) h (id_stays s names more)
