use Rattle.std.proofs.Common.{map, refl}
use Rattle.std.proofs.lemmas.List.{map-append}
use Rattle.ion_visiting.specs.Names.{annotation}
use Rattle.ion_visiting.proofs.ToldItems.{told_next}
use Rattle.ion_visiting.proofs.telling.tell_annotations.Goals as goal

pub loop-symbol-preserved : goal.loop-symbol-preserved
loop-symbol-preserved g c = told_next g.V.Visitor.takes (map annotation) (map-append annotation) c.args.symbols.now c.loop-symbol.symbol-index
    c.symbol-item.result c.args.visitor.now c.loop-symbol.visitor c.tell_annotation.new.visitor c.loop-symbol-test.true c.symbol-item.is
    c.loop-symbol.invariant (c.tell_annotation.new.visitor, c.tell_annotation.ensures c.if-not-tell_annotation.false, refl)
