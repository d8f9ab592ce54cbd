-- For which reasons ids and symbol tables are refused, want of memory aside.
use Rattle.std.specs.Prelude.{⊤}
use Rattle.ion_symtab.specs.Names.Below.{Reason}

-- an id: it is above the greatest, or a gap stands there
abbrev pub IsIdReason : Reason → Type 0
IsIdReason Reason.SymbolRange = ⊤
IsIdReason Reason.ImportGap = ⊤
IsIdReason _ = ⊥

-- a local symbol table
abbrev pub IsTableReason : Reason → Type 0
IsTableReason Reason.NullTable = ⊤
IsTableReason Reason.RepeatedField = ⊤
IsTableReason Reason.MissingImport = ⊤
IsTableReason Reason.TableTooLarge = ⊤
IsTableReason _ = ⊥

-- a value that is to describe a shared symbol table
abbrev pub IsSharedReason : Reason → Type 0
IsSharedReason Reason.RepeatedField = ⊤
IsSharedReason Reason.BadTable = ⊤
IsSharedReason _ = ⊥
