-- Ids and local symbol tables are refused only for reasons that octets decide.
use Rattle.std.proofs.Common.{ℕ, List, Result, Ok, Err}
use Rattle.std.specs.Prelude.{IfErr}
use Rattle.ion_symtab.specs.Names.{Decides, ImportGap, IsDecided, IsIdReason, IsTableReason, MissingImport, NullTable, Reason, RepeatedField, Slot, SymbolRange, Table, TableTooLarge, Value, next, resolve}
use Rattle.ion_symtab.specs.laws.Reasons.{next_fails, resolve_fails}

id_decides : (e : Reason) → IsIdReason e → IsDecided e
id_decides SymbolRange h = tt
id_decides ImportGap h = tt
id_decides _ h = absurd h

table_decides : (e : Reason) → IsTableReason e → IsDecided e
table_decides NullTable h = tt
table_decides RepeatedField h = tt
table_decides MissingImport h = tt
table_decides TableTooLarge h = tt
table_decides _ h = absurd h

decides_by : {A : Type 0} (P : Reason → Type 0) → ((e : Reason) → P e → IsDecided e) → (r : Result A Reason) → IfErr r P → Decides r
decides_by P decides (Ok x) h = tt
decides_by P decides (Err e) h = decides e h

-- an id is resolved, or refused for a reason that an octet can decide
pub resolve_decides : (c : List Slot) (id : ℕ) → Decides (resolve c id)
resolve_decides c id = decides_by IsIdReason id_decides (resolve c id) (resolve_fails c id)

-- a local symbol table is applied, or refused for a reason that an octet can decide
pub next_decides : (slots : List Slot) (v : Value) (tables : List Table) → Decides (next slots v tables)
next_decides slots v tables = decides_by IsTableReason table_decides (next slots v tables) (next_fails slots v tables)
