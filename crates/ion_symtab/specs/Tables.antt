-- Shared symbol tables, and the catalog (Ion 1.0, "Symbols", "Shared Symbol Tables").
use Rattle.std.specs.Prelude.{◌+◌, ◌≡◌, Contains, if◌then◌else◌, ℕ, List, [], ◌∷◌, Option, None, Some, Bool, ◌&&◌, ◌==◌, nat_le, Result, Ok, Err, length}
use Rattle.std.specs.Str.{bytes_eq}
use Rattle.ion_symtab.specs.Names.Below.{Reason}
use Rattle.ion_symtab.specs.Fields.{is_table_name}
use Rattle.ion_symtab.specs.Slots.{greatest_id}

-- a shared table; a slot without a text is `None`
pub record Table : Type 0 where
  pub name : List ℕ
  pub version : ℕ
  pub symbols : List (Option (List ℕ))

-- the table has this name and version
abbrev pub is_named : List ℕ → ℕ → Table → Bool
is_named name version table = bytes_eq table.name name && (table.version == version)

-- the table of this name and version among those of a catalog
abbrev pub find : List Table → List ℕ → ℕ → Option Table
find [] name version = None
find (t ∷ ts) name version = if is_named name version t then Some t else find ts name version

-- no two tables have the same name and version: under its own name and version each is found
abbrev pub AreApart : List Table → Type 0
AreApart tables = (t : Table) → Contains tables t → find tables t.name t.version ≡ Some t

-- the one of the greater version; the first where both have one version
abbrev pub newer : Option Table → Option Table → Option Table
newer None second = second
newer (Some t) None = Some t
newer (Some t) (Some u) = if nat_le u.version t.version then Some t else Some u

-- the table of this name with the greatest version
abbrev pub newest : List Table → List ℕ → Option Table
newest [] name = None
newest (t ∷ ts) name = if bytes_eq t.name name then newer (Some t) (newest ts name) else newest ts name

-- the first, if it is there, else the second
abbrev pub otherwise : Option Table → Option Table → Option Table
otherwise (Some t) second = Some t
otherwise None second = second

-- the table of this name and version, else that of the name with the greatest version
abbrev pub find_best : List Table → List ℕ → ℕ → Option Table
find_best tables name version = otherwise (find tables name version) (newest tables name)

-- a table of these parts is usable: its name isn't empty and isn't `$ion`, and with the system slots its
-- slots have ids in range
abbrev pub is_usable : List ℕ → ℕ → List (Option (List ℕ)) → Bool
is_usable name version symbols =
    is_table_name name && nat_le 1 version && nat_le version greatest_id && nat_le (length symbols + 9) greatest_id

-- the table of a name, a version and symbols, if it is usable
abbrev pub table_of : List ℕ → ℕ → List (Option (List ℕ)) → Result Table Reason
table_of name version symbols =
    if is_usable name version symbols then Ok (record { name = name; version = version; symbols = symbols }) else Err Reason.BadTable
