use Rattle.std.proofs.Common.{Bool, Ok, subst}
use Rattle.ion_binary.specs.Names.{EndsOn, builds, trace}
use Rattle.ion_binary.proofs.reader.BinaryReaderItems.finish.Goals as goal

pub returns-in-Ok-clause-ends : goal.returns-in-Ok-clause-ends
returns-in-Ok-clause-ends c = λ u s h.
    let walk = c.args.self.walk in
    let P : Bool → Type 0 = λ b. EndsOn builds (trace walk.catalog.now walk.limits u) h.0 (Ok b) c.args.self.build c.finish_by-answer.new.visitor in
    (subst P c.in-Ok.ensures.never (c.in-Ok.ensures.ends u s h.0 h.1)).0

pub returns-in-Err-clause-ends : goal.returns-in-Err-clause-ends
returns-in-Err-clause-ends c = λ u s h. c.in-Err.ensures.ends u s h.0 h.1
