use Rattle.std.proofs.Common.{◌≡◌, map, take}
use Rattle.ion_symtab.specs.Names.{symbol_of}
use Rattle.ion_symtab.proofs.fields.symbols_of.Given as goal

abbrev pub invariant-loop-element : goal.invariant-loop-element
invariant-loop-element l = l.symbols.items ≡ map symbol_of (take l.element-index l.elements)
