use Rattle.std.proofs.Common.{Bool, Ok, subst}
use Rattle.ion_text.specs.Names.{EndsOn, builds, trace}
use Rattle.ion_symtab.specs.laws.Builds.{built_end}
use Rattle.ion_text.proofs.reader.TextReaderItems.finish.Goals as goal

pub returns-in-Ok-true-clause-ends : goal.returns-in-Ok-true-clause-ends
returns-in-Ok-true-clause-ends c = λ u s h.
    let r = c.args.self in
    let t = trace r.walk.catalog.now r.walk.limits u in
    let P : Bool → Type 0 = λ b. EndsOn builds t h.0 (Ok b) r.build c.finish_by-answer.new.visitor in
    built_end t h.0 r.build c.finish_by-answer.new.visitor h.2 (subst P c.in-Ok-true.field-0-test (c.in-Ok-true.ensures.ends u s h.0 h.1))
    c.take-value.result c.take-value.ensures.value

pub returns-in-Ok-false-clause-ends : goal.returns-in-Ok-false-clause-ends
returns-in-Ok-false-clause-ends c = λ u s h.
    let r = c.args.self in
    let t = trace r.walk.catalog.now r.walk.limits u in
    let P : Bool → Type 0 = λ b. EndsOn builds t h.0 (Ok b) r.build c.finish_by-answer.new.visitor in
    (subst P c.in-Ok-false.field-0-test (c.in-Ok-false.ensures.ends u s h.0 h.1)).0

pub returns-in-Err-clause-ends : goal.returns-in-Err-clause-ends
returns-in-Err-clause-ends c = λ u s h. c.in-Err.ensures.ends u s h.0 h.1
