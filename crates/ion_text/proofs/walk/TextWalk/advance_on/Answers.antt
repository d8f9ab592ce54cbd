use Rattle.std.proofs.Common.{◌≡◌, None, refl}
use Rattle.ion_text.specs.Names.{failed}
use Rattle.ion_text.proofs.WalkRuns.{fine_behind, leaves_behind, walk_answers, walks_behind}
use Rattle.ion_text.proofs.walk.TextWalk.advance_on.Goals as goal

pub returns-then-may_end_so-clause-leaves : goal.returns-then-may_end_so-clause-leaves
returns-then-may_end_so-clause-leaves g c =
    let old = c.args.self.now in
    let new = c.advance.new.self in
    let x = c.in-Ok.ensures in
    let fine : failed new ≡ None = fine_behind old new c.requires.fine x.setting.failed x.fine in
    leaves_behind old new c.args.piece.now c.requires.begins c.in-Ok.walked x.within x.all x.used x.still fine x.next
    (λ ended none. let owed = c.if-may_end_so.ensures refl ended none in (c.owes-owed.ensures owed.0, owed.1))

pub returns-then-may_end_so-clause-tells : goal.returns-then-may_end_so-clause-tells
returns-then-may_end_so-clause-tells g c =
    let old = c.args.self.now in
    let new = c.advance.new.self in
    let x = c.in-Ok.ensures in
    let fine : failed new ≡ None = fine_behind old new c.requires.fine x.setting.failed x.fine in
    walks_behind g.V.Visitor.takes old new c.args.piece.now c.in-Ok.walked c.args.visitor.now c.advance.new.visitor c.requires.begins x.setting.catalog
    x.setting.limits x.used fine x.steady x.does

pub returns-in-Err-clause-answers : goal.returns-in-Err-clause-answers
returns-in-Err-clause-answers g c =
    walk_answers g.V.Visitor.takes c.args.self.now c.advance.new.self c.args.piece.now c.in-Err.refusal c.args.visitor.now c.advance.new.visitor
    c.requires.begins c.in-Err.ensures.does
