-- Reasons that octets decide: no want of memory or of more octets, and nothing about tables of the catalog.
use Rattle.std.specs.Prelude.{Result, Ok, Err}
use Rattle.ion_symtab.specs.Names.Below.{BadTable, DuplicateTable, Incomplete, Memory, Reason}

-- a reason that an octet can decide
abbrev pub IsDecided : Reason → Type 0
IsDecided Memory = ⊥
IsDecided Incomplete = ⊥
IsDecided DuplicateTable = ⊥
IsDecided BadTable = ⊥
IsDecided _ = Unit {0}

-- an answer that an octet can decide
abbrev pub Decides : {A : Type 0} → Result A Reason → Type 0
Decides (Ok x) = Unit {0}
Decides (Err e) = IsDecided e
