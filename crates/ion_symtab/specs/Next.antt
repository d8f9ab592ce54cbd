-- The context behind a local symbol table (Ion 1.0, "Symbols", "Local Symbol Tables" and "Imports").
use Rattle.std.specs.Prelude.{if◌then◌else◌, ℕ, ◌+◌, ◌-◌, List, [], ◌∷◌, ◌++◌, map, take, length, replicate, Option, None, Some, Bool, false, nat_le, Result, Ok, Err, codes}
use Rattle.ion_symtab.specs.Names.Below.{Field, Layer, Payload-F, Reason, Value, has_text, out-Payload}
use Rattle.ion_symtab.specs.Fields.{count_of, elements, only, payload_of, symbol_of, table_name, version_of}
use Rattle.ion_symtab.specs.Slots.{Slot, gap, greatest_id, system_slots, text, unknown}
use Rattle.ion_symtab.specs.Tables.{Table, find, newest}

-- what follows, unless there is a reason already
abbrev pub and_then : {A B : Type 0} → Result A Reason → (A → Result B Reason) → Result B Reason
and_then (Ok x) f = f x
and_then (Err reason) f = Err reason

-- the slots with more behind them, if the number of all, which is the greatest id, is in range
abbrev pub joined : List Slot → List Slot → Result (List Slot) Reason
joined slots more = if nat_le (length slots + length more) greatest_id then Ok (slots ++ more) else Err Reason.TableTooLarge

-- 1. The base: the system slots, or all old slots where `imports` is the symbol `$ion_symbol_table`.

-- whether it is the symbol `$ion_symbol_table`
abbrev pub appends_in : Option Layer → Bool
appends_in (Some (Payload-F.Symbol s)) = has_text (codes "$ion_symbol_table") s
appends_in _ = false

-- whether the table appends, by its `imports`
abbrev pub appends : Option Value → Bool
appends imports = appends_in (payload_of imports)

-- all old slots where the table appends, else the system slots
abbrev pub base : List Slot → Option Value → List Slot
base slots imports = if appends imports then slots else system_slots

-- 2. The slots of each struct in the list `imports`, in order.

-- a slot of a shared table: one without a text is a gap
abbrev pub shared_slot : Option (List ℕ) → Slot
shared_slot None = gap
shared_slot (Some t) = text t

-- so many slots: cut, or filled up with gaps
abbrev pub cut_or_filled : ℕ → List Slot → List Slot
cut_or_filled count slots = take count slots ++ replicate (count - length slots) gap

-- a shared table as it is imported, and its number of slots
pub record Import : Type 0 where
  pub table : Table
  pub count : ℕ

-- the slots of the imported table, cut or filled up to so many as are imported
abbrev pub import_slots : Import → List Slot
import_slots import = cut_or_filled import.count (map shared_slot import.table.symbols)

-- the table of the name and version, with as many slots as `max_id` says, or as it has itself
abbrev pub exactly : Table → Option ℕ → Import
exactly t None = record { table = t; count = length t.symbols }
exactly t (Some count) = record { table = t; count = count }

-- where there is none: the newest table of the name, with as many slots as `max_id` says
abbrev pub instead : Option Table → Option ℕ → Result (Option Import) Reason
instead (Some t) (Some count) = Ok (Some (record { table = t; count = count }))
instead _ _ = Err Reason.MissingImport

-- the import of the table found, or of the newest instead where none is
abbrev pub chosen : Option Table → Option Table → Option ℕ → Result (Option Import) Reason
chosen (Some t) newest max_id = Ok (Some (exactly t max_id))
chosen None newest max_id = instead newest max_id

-- an import without a usable name is ignored
abbrev pub import_named : List Table → Option (List ℕ) → ℕ → Option ℕ → Result (Option Import) Reason
import_named tables None version max_id = Ok None
import_named tables (Some name) version max_id = chosen (find tables name version) (newest tables name) max_id

-- what a struct with these fields imports
abbrev pub import_of : List Table → List Field → Result (Option Import) Reason
import_of tables fields =
    and_then (only (codes "name") fields) (λ name.
    and_then (only (codes "version") fields) (λ version.
    and_then (only (codes "max_id") fields) (λ max_id.
    import_named tables (table_name name) (version_of version) (count_of max_id))))

-- an element of `imports` that is no struct gives nothing
abbrev pub element_import : List Table → Layer → Result (Option Import) Reason
element_import tables (Payload-F.Fields fields) = import_of tables fields
element_import tables _ = Ok None

-- the slots with those of an import behind them
abbrev pub import_added : List Slot → Option Import → Result (List Slot) Reason
import_added slots None = Ok slots
import_added slots (Some import) = joined slots (import_slots import)

-- the slots with those of an element of `imports` behind them
abbrev pub element_added : List Table → List Slot → Value → Result (List Slot) Reason
element_added tables slots v = and_then (element_import tables (out-Payload v.payload)) (import_added slots)

-- the slots with those of these elements behind them
abbrev pub imported : List Table → List Slot → List Value → Result (List Slot) Reason
imported tables slots [] = Ok slots
imported tables slots (v ∷ vs) = and_then (element_added tables slots v) (λ more. imported tables more vs)

-- 3. One slot for each element of the list `symbols`: a string its text, anything else unknown text.

-- a slot of a local table: a text, or unknown text
abbrev pub local_slot : Option (List ℕ) → Slot
local_slot None = unknown
local_slot (Some t) = text t

-- a slot for each element of `symbols`
abbrev pub local_slots : Option Value → List Slot
local_slots symbols = map local_slot (map symbol_of (elements symbols))

-- 4. Other fields are open content.

-- the slots with those of `imports` and then those of `symbols` behind them
abbrev pub extended : List Table → List Slot → Option Value → Option Value → Result (List Slot) Reason
extended tables slots imports symbols =
    and_then (imported tables slots (elements imports)) (λ more. joined more (local_slots symbols))

-- the context behind a table with these fields, where `imports` and `symbols` stand once at most
abbrev pub next_fields : List Slot → List Field → List Table → Result (List Slot) Reason
next_fields slots fields tables =
    and_then (only (codes "imports") fields) (λ imports.
    and_then (only (codes "symbols") fields) (λ symbols.
    extended tables (base slots imports) imports symbols))

-- the context behind a table that is a struct; any other is refused as a null one
abbrev pub next_layer : List Slot → Layer → List Table → Result (List Slot) Reason
next_layer slots (Payload-F.Fields fields) tables = next_fields slots fields tables
next_layer slots _ tables = Err Reason.NullTable

-- the context behind a table, or the first reason for which it is refused
unfoldable pub next : List Slot → Value → List Table → Result (List Slot) Reason
next slots table tables = next_layer slots (out-Payload table.payload) tables
