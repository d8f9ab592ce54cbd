use Rattle.std.proofs.Common.{◌≡◌, length, take, drop}
use Rattle.ion_symtab.specs.Names.{imported, slots_of}
use Rattle.ion_symtab.proofs.segments.Segments.push_imports.Given as goal

abbrev pub invariant-loop-element : goal.invariant-loop-element
invariant-loop-element l = record {
  kept : take (length l.initial.self) l.self ≡ l.initial.self;
  so_far : imported l.catalog (slots_of l.initial.self) l.elements ≡ imported l.catalog (slots_of l.self) (drop l.element-index l.elements);
}
