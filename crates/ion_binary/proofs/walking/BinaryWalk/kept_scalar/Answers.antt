use Rattle.std.proofs.Common.{◌≡◌, refl}
use Rattle.ion_binary.specs.declared.walking.whole_leaves.Leaf.{Leaf}
use Rattle.ion_binary.proofs.Beginning.{leaf_does}
use Rattle.ion_binary.proofs.walking.BinaryWalk.kept_scalar.Goals as goal

pub returns-clause-does : goal.returns-clause-does
returns-clause-does g c = λ fs h around.
    let r = c.args.self.now in
    let s = c.begin_value.new.self in
    let same : s.body ≡ r.body = rw c.begin_value.ensures.same refl in
    rw same at (leaf_does g.V.Visitor.takes r s c.begin_value.ensures.same c.tell_body.new.filter c.args.visitor.now
    c.begin_value.new.visitor c.tell_body.new.visitor c.ended.new.visitor c.in_ok-begin_value.ensures.told c.ended.result c.ended.new.self c.ended.ensures.does
    (Leaf.Scalar c.args.scalar) s.body c.in_ok-tell_body.ensures.told fs h around)
