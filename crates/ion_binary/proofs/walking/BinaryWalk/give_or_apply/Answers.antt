use Rattle.std.proofs.Common.{[], Ok, Err, refl, ap, sym, subst, ◌∙◌}
use Rattle.std.proofs.lemmas.Result.{err_from_is_err_and}
use Rattle.ion_binary.specs.Names.{BinaryWalk, DoesAlone, Goes, Ready, deliver, events_of, setting_of, spot_of}
use Rattle.ion_binary.proofs.Giving.{gives_out, table_goes, table_is, table_refused}
use Rattle.ion_binary.proofs.walking.BinaryWalk.give_or_apply.Goals as goal

pub returns-in-None-clause-does : goal.returns-in-None-clause-does
returns-in-None-clause-does c = λ v h.
    let r = c.args.self.now in
    gives_out r (record r { start = r.used; phase = Ready; filter = c.end.new.self }) c.requires.top refl v c.end.result c.in-None.is (c.end.ensures v h) refl

pub returns-in_ok-applied-in-Some-clause-does : goal.returns-in_ok-applied-in-Some-clause-does
returns-in_ok-applied-in-Some-clause-does c = λ v h.
    let r = c.args.self.now in
    let d = c.apply-applied.new.self.context in
    let e = c.end.ensures v h in
    let a = c.in_ok-applied-in-Some.ensures.ok (table_is v c.end.result c.in-Some.table c.in-Some.is e.0) in
    subst (λ (n : BinaryWalk). DoesAlone (events_of v) (deliver (setting_of r) (spot_of r) [] v) (Ok Goes) n) (sym a.1)
    (table_goes r (record r { start = r.used; phase = Ready; filter = c.end.new.self; context = d }) c.requires.top refl v c.end.result c.in-Some.table d
    c.in-Some.is e (λ t. a.0) refl)

pub returns-in_err-applied-in-Some-clause-does : goal.returns-in_err-applied-in-Some-clause-does
returns-in_err-applied-in-Some-clause-does c = λ v h.
    let e = c.end.ensures v h in
    let p = err_from_is_err_and c.from_residual.result c.from_residual.ensures.1 in
    table_refused c.args.self.now c.apply-applied.new.self v c.end.result c.in-Some.table c.in_err-applied-in-Some.field-0.0 c.from_residual.result c.in-Some.is e.0
    (c.in_err-applied-in-Some.ensures.refused (table_is v c.end.result c.in-Some.table c.in-Some.is e.0)) (p.1 ∙ ap Err p.2)
