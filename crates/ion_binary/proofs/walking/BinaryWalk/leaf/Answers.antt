use Rattle.ion_binary.proofs.Beginning.{leaf_does}
use Rattle.ion_binary.proofs.walking.BinaryWalk.leaf.Goals as goal

pub returns-clause-does : goal.returns-clause-does
returns-clause-does g c =
    leaf_does g.V.Visitor.takes c.args.self.now c.begin_value.new.self c.begin_value.ensures.same c.tell_leaf.new.filter c.args.visitor.now
    c.begin_value.new.visitor c.tell_leaf.new.visitor c.ended.new.visitor c.in_ok-begin_value.ensures.told c.ended.result c.ended.new.self c.ended.ensures.does
    c.args.leaf c.args.body.now c.in_ok-tell_leaf.ensures.told
