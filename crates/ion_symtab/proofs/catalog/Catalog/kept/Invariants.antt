use Rattle.std.proofs.Common.{drop}
use Rattle.ion_symtab.specs.laws.ContextTexts.{AreTextTables}
use Rattle.ion_symtab.proofs.catalog.Catalog.kept.Given as goal

-- where the texts of the tables that are left are UTF-8, all are
abbrev pub invariant-loop-table : goal.invariant-loop-table
invariant-loop-table l = AreTextTables (drop l.table-index l.table-items) → AreTextTables l.table-items
