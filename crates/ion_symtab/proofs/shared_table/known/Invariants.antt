use Rattle.std.proofs.Common.{◌≡◌, map, option_map, string_bytes, take}
use Rattle.ion_symtab.proofs.shared_table.known.Given as goal

abbrev pub invariant-loop-text : goal.invariant-loop-text
invariant-loop-text l = l.symbols.items ≡ map (option_map string_bytes) (take l.text-index l.texts)
