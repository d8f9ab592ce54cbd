-- The shared symbol table that a value of a catalog document describes (Ion 1.0, "Symbols", "Shared
-- Symbol Tables").
use Rattle.std.specs.Prelude.{if◌then◌else◌, ℕ, List, [], ◌∷◌, map, length, Option, None, Some, Bool, true, false, not, ◌==◌, Result, Err, codes}
use Rattle.ion_symtab.specs.Names.Below.{Field, Layer, Payload-F, Reason, Value, has_text, out-Payload}
use Rattle.ion_symtab.specs.Fields.{elements, only, payload_of, symbol_of, table_name, version_of}
use Rattle.ion_symtab.specs.Next.{and_then}
use Rattle.ion_symtab.specs.Tables.{Table, table_of}

-- the first annotation names shared tables
abbrev pub is_shared : List (Option (List ℕ)) → Bool
is_shared [] = false
is_shared (s ∷ ss) = has_text (codes "$ion_shared_symbol_table") s

-- `imports` is there, and neither null nor an empty list
abbrev pub imports_any : Option Layer → Bool
imports_any None = false
imports_any (Some (Payload-F.Null k)) = false
imports_any (Some (Payload-F.List vs)) = not (length vs == 0)
imports_any _ = true

-- the table of these parts
abbrev pub described : Option (List ℕ) → ℕ → List (Option (List ℕ)) → Result Table Reason
described None version symbols = Err Reason.BadTable
described (Some name) version symbols = table_of name version symbols

-- the table that these fields describe: no field stands twice, it imports nothing, its name is a string
abbrev pub shared_fields : List Field → Result Table Reason
shared_fields fields =
    and_then (only (codes "name") fields) (λ name.
    and_then (only (codes "version") fields) (λ version.
    and_then (only (codes "symbols") fields) (λ symbols.
    and_then (only (codes "imports") fields) (λ imports.
    if imports_any (payload_of imports) then Err Reason.BadTable
    else described (table_name name) (version_of version) (map symbol_of (elements symbols))))))

-- the table that a struct describes; no other value describes one
abbrev pub shared_layer : Layer → Result Table Reason
shared_layer (Payload-F.Fields fields) = shared_fields fields
shared_layer _ = Err Reason.BadTable

-- the table that a value describes
abbrev pub shared_table : Value → Result Table Reason
shared_table v = if is_shared v.annotations then shared_layer (out-Payload v.payload) else Err Reason.BadTable
