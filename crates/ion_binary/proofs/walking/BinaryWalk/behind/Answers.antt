use Rattle.ion_binary.proofs.Ending.{ends_behind, goes_behind}
use Rattle.ion_binary.proofs.walking.BinaryWalk.behind.Goals as goal

pub returns-then-closed-clause-does : goal.returns-then-closed-clause-does
returns-then-closed-clause-does g c = λ es o first d.
    ends_behind g.V.Visitor.takes es o c.args.self.now c.ended.new.self c.ended.result c.args.closed first c.args.visitor.now c.ended.new.visitor
    c.if-closed.true c.ended.ensures.does d

pub returns-clause-does : goal.returns-clause-does
returns-clause-does g c = λ es o first d.
    goes_behind g.V.Visitor.takes es o c.args.self.now c.args.closed first c.args.visitor.now c.if-closed.false d
