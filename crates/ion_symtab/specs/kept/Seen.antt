-- An import of the code, as the definitions have it.
use Rattle.ion_symtab.specs.Next as next
use Rattle.ion_symtab.specs.declared.import.Import.{Import}

-- the table that it borrows, and its number of slots
abbrev pub import_seen : Import → next.Import
import_seen i = record { table = i.table.now; count = i.count }
