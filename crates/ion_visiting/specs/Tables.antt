-- Local symbol tables, which are kept from a visitor: which events of a value of the top level it is told.
use Rattle.std.specs.Prelude.{◌≡◌, ℕ, List, [], ◌∷◌, ◌++◌, map, Option, Some, None, Bool, true, false, if◌then◌else◌}
use Rattle.ion_visiting.specs.Names.{Bracket, Event, Kind, Led, Payload, Table, TableBuilding, TableFilter, Value, annotation, is_table, names_table, opens, part}
use Rattle.ion_model.specs.declared.value.Payload.TheVariants as payloads
use Rattle.ion_visiting.specs.Skims.{none_yet, pruned, skims}

-- what annotations are: texts, or unknown
abbrev pub Symbols : Type 0
Symbols = List (Option (List ℕ))

-- the null of structs
abbrev pub is_null_struct : Payload → Bool
is_null_struct (payloads.Null Kind.Fields) = true
is_null_struct _ = false

abbrev pub is_fields : Bracket → Bool
is_fields Bracket.Fields = true
is_fields _ = false

-- whether an event is a struct, or begins one
abbrev pub begins_struct : Event → Bool
begins_struct (part p) = is_null_struct p
begins_struct (opens x) = is_fields x
begins_struct _ = false

-- where so much is known of a value, an event is one of a table; the Bool says whether it is a struct, or begins one
abbrev pub is_of_table : Table → Bool → Bool
is_of_table Table.Yes begins = true
is_of_table Table.Noted begins = begins
is_of_table _ begins = false

-- whether a value is a local symbol table, as far as it was told, behind one annotation more
abbrev pub table_noted : Table → Option (List ℕ) → Table
table_noted Table.Unknown s = if names_table s then Table.Noted else Table.No
table_noted t s = t

-- behind one event more
abbrev pub table_behind : Table → Event → Table
table_behind t (annotation s) = table_noted t s
table_behind t e = if is_of_table t (begins_struct e) then Table.Yes else Table.No

-- behind these events more
abbrev pub table_after : Table → List Event → Table
table_after t [] = t
table_after t (e ∷ es) = table_after (table_behind t e) es

-- behind these events
abbrev pub table_by : List Event → Table
table_by es = table_after Table.Unknown es

-- what a visitor is told of these events: all of them, unless they are or may be those of a table
abbrev pub heard_by : Table → List Event → List Event
heard_by Table.No es = es
heard_by _ es = []

abbrev pub heard : List Event → List Event
heard es = heard_by (table_by es) es

-- the annotations that are kept, and what was built, where these events were told
abbrev pub AreKept : Table → List Event → Symbols → TableBuilding → Type 0
AreKept Table.Unknown es ss b = (es ≡ []) × (ss ≡ []) × (b ≡ none_yet)
AreKept Table.No es ss b = (ss ≡ []) × (b ≡ none_yet)
AreKept Table.Noted es ss b = (es ≡ map annotation ss) × (b ≡ none_yet)
AreKept Table.Yes es ss b = (ss ≡ []) × Led skims es none_yet b

-- a filter was told these events of the value that it is told now
pub record WasTold (f : TableFilter) (es : List Event) : Type 0 where
  pub table : f.table ≡ table_by es
  pub kept : AreKept f.table es f.notes f.tables

-- where a visitor had heard the first of these events, it was led on to where it heard the others
pub record Hears {V : Type 0} (takes : V → Event → V → Type 0) (es fs : List Event) (a b : V) : Type 0 where
  pub more : List Event
  pub is : fs ≡ es ++ more
  pub led : Led takes more a b

-- a filter was told one event more, and a visitor heard what it is to hear
abbrev pub Tells : {V : Type 0} → (V → Event → V → Type 0) → Event → TableFilter → TableFilter → V → V → Type 0
Tells takes e f g a b = (es : List Event) → WasTold f es → WasTold g (es ++ e ∷ []) × Hears takes (heard es) (heard (es ++ e ∷ [])) a b

-- the local symbol table that a value is, without its open content
abbrev pub table_of : Value → Option Value
table_of v = if is_table v then Some (pruned v) else None

-- a table was begun, of which these events were told
pub record IsTable (f : TableFilter) (es : List Event) : Type 0 where
  pub table : f.table ≡ Table.Yes
  pub notes : f.notes ≡ []
  pub built : Led skims es none_yet f.tables

-- what is told is no table, and nothing is kept
pub record LetsPass (f : TableFilter) : Type 0 where
  pub table : f.table ≡ Table.No
  pub notes : f.notes ≡ []
  pub tables : f.tables ≡ none_yet
