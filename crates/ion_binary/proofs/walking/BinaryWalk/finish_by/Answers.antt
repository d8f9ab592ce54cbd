use Rattle.ion_binary.proofs.WalkRuns.{ends_cut, ends_whole}
use Rattle.ion_binary.proofs.walking.BinaryWalk.finish_by.Goals as goal

pub returns-then-whole-clause-ends : goal.returns-then-whole-clause-ends
returns-then-whole-clause-ends g c = λ u s es h.
    ends_whole g.V.Visitor.takes c.args.self u s es h c.is_whole-whole.result c.is_whole-whole.ensures c.args.visitor.now c.if-whole.true

pub returns-clause-ends : goal.returns-clause-ends
returns-clause-ends g c = λ u s es h.
    ends_cut g.V.Visitor.takes c.args.self u s es h c.is_whole-whole.result c.is_whole-whole.ensures c.args.visitor.now c.if-whole.false
