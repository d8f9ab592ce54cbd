use Rattle.std.proofs.Common.{◌≡◌, ◌⊎◌, ◌+◌, ◌<◌, ◌≤◌, true, false, Ok, Err, reverse, [], refl, ap, sym, subst, ◌∙◌, arith}
use Rattle.std.specs.Prelude.{nat_le}
use Rattle.std.proofs.lemmas.Bool.Decides.{nat_tests}
use Rattle.std.proofs.lemmas.Result.{err_from_is_err_and}
use Rattle.ion_text.specs.Names.{DoesAlone, Memory, TextWalk, WasTold, ended, events_of, next, setting_of, spot_of}
use Rattle.ion_text.proofs.Ended.{given, gives_out, table_is, table_out, table_refused, table_too_long}
use Rattle.ion_text.proofs.walk.TextWalk.give_table.Goals as goal

pub returns-else-end-last-clause-does : goal.returns-else-end-last-clause-does
returns-else-end-last-clause-does c =
    let r = c.args.self.now in
    let e = c.set_stage.ensures in
    let small : c.args.end ≤ r.start + r.limits.item = omega (arith, c.if-end-last.false, c.saturating_add-last.ensures) in
    let fits : nat_le c.args.end (r.start + r.limits.item) ≡ true = grind (arith, nat_tests, small) in
    gives_out (setting_of r) (spot_of r c.args.end) r.filter (given c.set_stage.new.self c.end.new.self) c.end.result
    (ap (λ (w : TextWalk). reverse w.frames.items) e ∙ c.requires.top) (ap (λ (w : TextWalk). w.noted) e ∙ c.requires.notes)
    (ap (λ (w : TextWalk). w.stage) e) refl fits
    (λ v h. c.end.ensures v (subst (λ f. WasTold f (events_of v)) (sym (ap (λ (w : TextWalk). w.filter) e)) h))
    (ap (λ (w : TextWalk). w.context) e) c.in-None.is

pub returns-else-end-last-2-clause-does : goal.returns-else-end-last-2-clause-does
returns-else-end-last-2-clause-does c =
    let r = c.args.self.now in
    let e = c.set_stage.ensures in
    let k = c.apply-applied.ensures.same in
    let small : c.args.end ≤ r.start + r.limits.item = omega (arith, c.if-end-last-2.false, c.saturating_add-last.ensures) in
    let fits : nat_le c.args.end (r.start + r.limits.item) ≡ true = grind (arith, nat_tests, small) in
    table_out (setting_of r) (spot_of r c.args.end) r.filter c.apply-applied.new.self c.end.result
    (ap (λ (w : TextWalk). reverse w.frames.items) k ∙ (ap (λ (w : TextWalk). reverse w.frames.items) e ∙ c.requires.top))
    (ap (λ (w : TextWalk). w.noted) k ∙ (ap (λ (w : TextWalk). w.noted) e ∙ c.requires.notes))
    (ap (λ (w : TextWalk). w.stage) k ∙ ap (λ (w : TextWalk). w.stage) e) (ap (λ (w : TextWalk). w.start) k) fits
    (λ v h.
    let i = c.end.ensures v (subst (λ f. WasTold f (events_of v)) (sym (ap (λ (w : TextWalk). w.filter) e)) h) in
    (i.0, subst (λ f. WasTold f []) (sym (ap (λ (w : TextWalk). w.filter) k)) i.1))
    c.in-Some.table
    (λ is. subst (λ (w : TextWalk). next w.context c.in-Some.table w.catalog.now ≡ Ok c.apply-applied.new.self.context) e
    (c.in_ok-applied-in-Some.ensures.ok is))
    c.in-Some.is

pub returns-in_err-applied-in-Some-clause-does : goal.returns-in_err-applied-in-Some-clause-does
returns-in_err-applied-in-Some-clause-does c = λ v h.
    let r = c.args.self.now in
    let e = c.set_stage.ensures in
    let reason = c.in_err-applied-in-Some.field-0.0 in
    let i = c.end.ensures v (subst (λ f. WasTold f (events_of v)) (sym (ap (λ (w : TextWalk). w.filter) e)) h) in
    let p = err_from_is_err_and c.from_residual.result c.from_residual.ensures.1 in
    let is = table_is (setting_of r) (spot_of r c.args.end) c.apply-applied.new.self c.end.result c.in-Some.table c.in-Some.is v i.0 in
    subst (λ a. DoesAlone (events_of v) (ended (setting_of r) (spot_of r c.args.end) [] v) a c.apply-applied.new.self) (sym (p.1 ∙ ap Err p.2))
    (table_refused (setting_of r) (spot_of r c.args.end) c.apply-applied.new.self c.end.result c.in-Some.table c.in-Some.is v i.0 reason
    (subst (λ (w : TextWalk). (reason ≡ Memory) ⊎ (next w.context c.in-Some.table w.catalog.now ≡ Err reason)) e (c.in_err-applied-in-Some.ensures.refused is)))

pub returns-then-end-last-2-clause-does : goal.returns-then-end-last-2-clause-does
returns-then-end-last-2-clause-does c = λ v h.
    let r = c.args.self.now in
    let e = c.set_stage.ensures in
    let i = c.end.ensures v (subst (λ f. WasTold f (events_of v)) (sym (ap (λ (w : TextWalk). w.filter) e)) h) in
    let is = table_is (setting_of r) (spot_of r c.args.end) c.apply-applied.new.self c.end.result c.in-Some.table c.in-Some.is v i.0 in
    let large : r.start + r.limits.item < c.args.end = omega (arith, c.if-end-last-2.true, c.saturating_add-last.ensures) in
    let long : nat_le c.args.end (r.start + r.limits.item) ≡ false = grind (arith, nat_tests, large) in
    table_too_long (setting_of r) (spot_of r c.args.end) c.apply-applied.new.self c.end.result c.in-Some.table c.in-Some.is v i.0
    c.apply-applied.new.self.context
    (subst (λ (w : TextWalk). next w.context c.in-Some.table w.catalog.now ≡ Ok c.apply-applied.new.self.context) e (c.in_ok-applied-in-Some.ensures.ok is)) long
