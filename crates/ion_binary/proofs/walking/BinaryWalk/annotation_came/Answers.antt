use Rattle.std.proofs.Common.{refl}
use Rattle.ion_binary.specs.Names.{resolve}
use Rattle.ion_binary.proofs.VarUInts.{note_does}
use Rattle.ion_binary.proofs.walking.BinaryWalk.annotation_came.Goals as goal

pub returns-clause-does : goal.returns-clause-does
returns-clause-does g c =
    let r = c.args.self.now in
    note_does g.V.Visitor.takes r (record r { filter = c.annotation.new.self; phase = c.behind_annotation-self.result }) c.args.stop c.in_default.field-0
    (resolve r.context c.args.id) c.in_ok-symbol.symbol.now c.args.visitor.now c.annotation.new.visitor c.in_default.ensures c.in_ok-symbol.ensures refl refl
    c.behind_annotation-self.ensures (c.annotation.ensures c.in_ok-heard.ensures.ok)
