use Rattle.std.proofs.Common.{ap, refl}
use Rattle.ion_binary.specs.Names.{BinaryWalk, Ready, resolve, spot_of}
use Rattle.ion_binary.proofs.VarUInts.{name_does}
use Rattle.ion_binary.proofs.walking.BinaryWalk.name_came.Goals as goal

pub returns-clause-does : goal.returns-clause-does
returns-clause-does c =
    let r = c.args.self.now in
    let mid = c.put_innermost.new.self in
    let same = c.put_innermost.ensures.same in
    name_does r (record mid { name = c.args.id; phase = Ready }) c.args.id c.in-Some.end c.in-Some.ensures c.if-self-end.false
    c.put_innermost.ensures.there
    (ap (λ (w : BinaryWalk). resolve w.context c.args.id) same) (ap (λ (w : BinaryWalk). spot_of w) same) (ap (λ
    (w : BinaryWalk). w.filter) same) refl
