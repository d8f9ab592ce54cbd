use Rattle.std.proofs.lemmas.Result.{err_from_is_err_and}
use Rattle.ion_binary.proofs.Building.{gives_answers, gives_stands, goes_answers, goes_stands}
use Rattle.ion_binary.proofs.reader.BinaryReaderItems.step.Goals as goal

pub returns-in_err-used-clause-answers : goal.returns-in_err-used-clause-answers
returns-in_err-used-clause-answers c =
    let p = err_from_is_err_and c.from_residual.result c.from_residual.ensures.1 in
    rw (p.1, p.2) (λ u s h. c.in_err-used.ensures.answers u s h.0 h.1)

pub returns-then-not-ended-clause-stands : goal.returns-then-not-ended-clause-stands
returns-then-not-ended-clause-stands c =
    let kept = record c.args.self.now { walk = c.walk.new.self; build = c.walk.new.visitor } in
    goes_stands c.args.self.now kept c.args.piece.now c.in_ok-used.field-0 c.in_ok-used.ensures.setting c.in_ok-used.ensures.leaves c.in_ok-used.ensures.tells
    c.if-not-ended.true

pub returns-then-not-ended-clause-answers : goal.returns-then-not-ended-clause-answers
returns-then-not-ended-clause-answers c =
    let kept = record c.args.self.now { walk = c.walk.new.self; build = c.walk.new.visitor } in
    goes_answers c.args.self.now kept c.args.piece.now c.in_ok-used.field-0 c.in_ok-used.ensures.setting c.in_ok-used.ensures.leaves c.in_ok-used.ensures.tells
    c.if-not-ended.true

pub returns-in-Some-clause-stands : goal.returns-in-Some-clause-stands
returns-in-Some-clause-stands c =
    let kept = record c.args.self.now { walk = c.walk.new.self; build = c.walk.new.visitor } in
    gives_stands c.args.self.now kept c.args.piece.now c.in_ok-used.field-0 c.in_ok-used.ensures.setting c.in_ok-used.ensures.leaves c.in_ok-used.ensures.tells
    c.if-not-ended.false c.in-Some.value c.take.result c.take.new.self c.in-Some.is c.take.ensures.value c.take.ensures.left

pub returns-in-Some-clause-answers : goal.returns-in-Some-clause-answers
returns-in-Some-clause-answers c =
    let kept = record c.args.self.now { walk = c.walk.new.self; build = c.walk.new.visitor } in
    gives_answers c.args.self.now kept c.args.piece.now c.in_ok-used.field-0 c.in_ok-used.ensures.setting c.in_ok-used.ensures.leaves c.in_ok-used.ensures.tells
    c.if-not-ended.false c.in-Some.value c.take.result c.take.new.self c.in-Some.is c.take.ensures.value c.take.ensures.left
