-- Worked local symbol tables.
use Rattle.std.proofs.Common.{ℕ, pos, List, [], ◌∷◌, ◌++◌, Some, None}
use Rattle.std.specs.Prelude.{codes}
use Rattle.ion_symtab.specs.Names.{Field, Payload, Slot, Table, Value, bare, field_of, gap, system_slots, text, unknown}
use Rattle.ion_model.specs.declared.value.Payload.TheVariants as payloads

-- the catalog: version 1 of the table `t`, of `a`, a slot without a text, and `b`
abbrev pub worked_catalog : List Table
worked_catalog = record { name = codes "t"; version = 1; symbols = Some (codes "a") ∷ None ∷ Some (codes "b") ∷ [] } ∷ []

-- a field of this name
abbrev names : List ℕ → Payload → Field
names name payload = field_of (Some name) (bare payload)

-- an import of this name and version, with these fields beside them
abbrev import_value : List ℕ → ℕ → List Field → Value
import_value name version others = bare (payloads.Fields (names (codes "name") (payloads.Str name) ∷ names (codes "version") (payloads.Int (pos version))
    ∷ others))

-- `max_id`
abbrev slots_wanted : ℕ → List Field
slots_wanted n = names (codes "max_id") (payloads.Int (pos n)) ∷ []

-- a table with these imports
abbrev importing : List Value → Value
importing imports = bare (payloads.Fields (names (codes "imports") (payloads.List imports) ∷ []))

-- a table that appends the texts `c` and, by an int, an unknown one
abbrev appending : Value
appending = bare (payloads.Fields (
    names (codes "imports") (payloads.Symbol (Some (codes "$ion_symbol_table")))
    ∷ names (codes "symbols") (payloads.List (bare (payloads.Str (codes "c")) ∷ bare (payloads.Int (pos 1)) ∷ [])) ∷ []))

-- Tables, and the slots behind the system slots, where the context had these and `z`: an import of all slots, of one, of five; of a version
-- that isn't there; of no name; two after each other; and a table that appends.
abbrev pub worked_tables : List (Value × List Slot)
worked_tables =
    (importing (import_value (codes "t") 1 [] ∷ []), text (codes "a") ∷ gap ∷ text (codes "b") ∷ [])
    ∷ (importing (import_value (codes "t") 1 (slots_wanted 1) ∷ []), text (codes "a") ∷ [])
    ∷ (importing (import_value (codes "t") 1 (slots_wanted 5) ∷ []), text (codes "a") ∷ gap ∷ text (codes "b") ∷ gap ∷ gap ∷ [])
    ∷ (importing (import_value (codes "t") 2 (slots_wanted 2) ∷ []), text (codes "a") ∷ gap ∷ [])
    ∷ (importing (import_value (codes "") 1 [] ∷ []), [])
    ∷ (
      importing (import_value (codes "t") 1 (slots_wanted 1) ∷ import_value (codes "t") 1 (slots_wanted 2) ∷ []),
      text (codes "a") ∷ text (codes "a") ∷ gap
          ∷ [],
    )
    ∷ (appending, text (codes "z") ∷ text (codes "c") ∷ unknown ∷ [])
    ∷ []

-- the context before them
abbrev pub worked_context : List Slot
worked_context = system_slots ++ text (codes "z") ∷ []
