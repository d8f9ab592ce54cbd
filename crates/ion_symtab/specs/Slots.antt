-- Contexts: lists of slots, of which the first has the id 1 (Ion 1.0, "Symbols").
use Rattle.std.specs.Prelude.{if◌then◌else◌, ℕ, ◌-◌, ◌==◌, List, [], ◌∷◌, map, Option, None, Some, Result, Ok, Err, codes, slice_get, length, ◌≡◌, refl}
use Rattle.ion_symtab.specs.Names.Below.{Reason}

-- what stands at an id: a text, unknown text, or a gap, whose id may not be used
pub data Slot : Type 0 where
  text : List ℕ → Slot
  unknown : Slot
  gap : Slot

-- the greatest id that a context may have
abbrev pub greatest_id : ℕ
greatest_id = 2147483647

-- the texts in which every document begins ("System Symbols")
unfoldable pub system_texts : List (List ℕ)
system_texts =
    codes "$ion"
    ∷ codes "$ion_1_0"
    ∷ codes "$ion_symbol_table"
    ∷ codes "name"
    ∷ codes "version"
    ∷ codes "imports"
    ∷ codes "symbols"
    ∷ codes "max_id"
    ∷ codes "$ion_shared_symbol_table"
    ∷ []

-- the system slots
unfoldable pub system_slots : List Slot
system_slots = map text system_texts

-- there are nine
pub nine_system_slots : length system_slots ≡ 9
unfolding system_slots system_texts
nine_system_slots = refl

-- the symbol of a slot
abbrev pub slot_symbol : Slot → Result (Option (List ℕ)) Reason
slot_symbol (text t) = Ok (Some t)
slot_symbol unknown = Ok None
slot_symbol gap = Err Reason.ImportGap

-- the symbol of the slot at a place, if one is there
abbrev pub symbol_at : Option Slot → Result (Option (List ℕ)) Reason
symbol_at None = Err Reason.SymbolRange
symbol_at (Some slot) = slot_symbol slot

-- the symbol of an id; 0 is the symbol of unknown text
unfoldable pub resolve : List Slot → ℕ → Result (Option (List ℕ)) Reason
resolve slots id = if id == 0 then Ok None else symbol_at (slice_get slots (id - 1))
