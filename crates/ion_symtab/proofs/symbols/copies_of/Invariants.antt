use Rattle.std.proofs.Common.{◌≡◌, take}
use Rattle.ion_symtab.proofs.symbols.copies_of.Given as goal

abbrev pub invariant-loop-symbol : goal.invariant-loop-symbol
invariant-loop-symbol l = l.copies.items ≡ take l.symbol-index l.symbols
