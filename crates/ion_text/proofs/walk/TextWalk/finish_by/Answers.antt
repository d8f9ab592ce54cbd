use Rattle.ion_text.proofs.WalkRuns.{ends_behind}
use Rattle.ion_text.proofs.walk.TextWalk.finish_by.Goals as goal

pub returns-clause-ends : goal.returns-clause-ends
returns-clause-ends g c =
    ends_behind g.V.Visitor.takes c.args.self c.end_or_refuse-answer.result c.args.visitor.now c.end_or_refuse-answer.new.visitor c.requires
    c.end_or_refuse-answer.ensures.ends
