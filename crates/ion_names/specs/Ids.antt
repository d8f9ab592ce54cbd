-- Ids of symbols (Ion 1.0, "Symbols"). A list of names has the symbol of each id at its place: first, of the id 0, the one of unknown text.
use Rattle.std.specs.Prelude.{if◌then◌else◌, ◌<◌, ℕ, suc, List, [], ◌∷◌, ◌++◌, length, map, Option, None, Some}
use Rattle.std.specs.List.{list_any, position_or_len, fold}
use Rattle.ion_model.specs.Symbols.{symbol_same}
use Rattle.ion_symtab.specs.Slots.{greatest_id, system_texts}

-- symbols, each at the place of its id
abbrev pub Names : Type 0
Names = List (Option (List ℕ))

-- those that every document begins with ("System Symbols")
unfoldable pub system_names : Names
system_names = None ∷ map Some system_texts

-- the id of a symbol
abbrev pub id_of : Names → Option (List ℕ) → ℕ
id_of names s = position_or_len (symbol_same s) names

-- the names with one at the end, unless it is there
abbrev pub with_name : Names → Option (List ℕ) → Names
with_name names s = if list_any (symbol_same s) names then names else names ++ s ∷ []

-- the names with each of these at the end, unless it is there
abbrev pub with_names : Names → List (Option (List ℕ)) → Names
with_names names ss = fold with_name names ss

-- one of the names would have an id above the greatest that there may be
abbrev pub NeedsLargeId : Names → Type 0
NeedsLargeId names = suc greatest_id < length names
