use Rattle.std.proofs.Common.{drop}
use Rattle.ion_symtab.specs.Names.{AreTexts}
use Rattle.ion_symtab.proofs.symbols.Symbols.from_vec.Given as goal

-- where the texts of the symbols that are left are UTF-8, all are
abbrev pub invariant-loop-symbol : goal.invariant-loop-symbol
invariant-loop-symbol l = AreTexts (drop l.symbol-index l.symbol-items) → AreTexts l.symbol-items
