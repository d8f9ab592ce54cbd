use Rattle.std.proofs.Common.{map, take}
use Rattle.ion_visiting.specs.Names.{Led, annotation}
use Rattle.ion_visiting.proofs.telling.tell_annotations.Given as goal

abbrev pub invariant-loop-symbol : goal.invariant-loop-symbol
invariant-loop-symbol g l = Led g.V.Visitor.takes (map annotation (take l.symbol-index l.symbols)) l.initial.visitor l.visitor
