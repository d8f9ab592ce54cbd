use Rattle.ion_binary.specs.Names.{payload_of}
use Rattle.ion_binary.proofs.Beginning.{whole_does}
use Rattle.ion_binary.proofs.Judged.{part_leaf}
use Rattle.ion_binary.proofs.walking.BinaryWalk.whole.Goals as goal

pub returns-clause-does : goal.returns-clause-does
returns-clause-does g c =
    whole_does g.V.Visitor.takes c.args.self.now c.begin_value.new.self c.begin_value.ensures.same c.part.new.self c.args.visitor.now
    c.begin_value.new.visitor c.part.new.visitor c.ended.new.visitor c.in_ok-begin_value.ensures.told c.ended.result c.ended.new.self c.ended.ensures.does
    (payload_of c.args.said.now) (part_leaf c.args.said.now) (c.part.ensures c.in_ok-heard.ensures.ok)
