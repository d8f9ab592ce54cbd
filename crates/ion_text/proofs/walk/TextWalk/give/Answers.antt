use Rattle.std.proofs.Common.{◌≡◌, ◌+◌, ◌≤◌, true, reverse, refl, ap, sym, subst, ◌∙◌, arith, None, []}
use Rattle.std.specs.Prelude.{nat_le}
use Rattle.std.proofs.lemmas.Bool.Decides.{nat_tests}
use Rattle.ion_text.specs.Names.{TextWalk, WasTold, events_of, setting_of, spot_of}
use Rattle.ion_text.proofs.Ended.{given, gives_out}
use Rattle.ion_text.proofs.walk.TextWalk.give.Goals as goal

pub returns-then-not-ends_plain-clause-does : goal.returns-then-not-ends_plain-clause-does
returns-then-not-ends_plain-clause-does c = λ v h.
    let same = c.ends_plain.ensures.none c.if-not-ends_plain.true in
    c.give_table.ensures.does v (subst (λ f. WasTold f (events_of v)) (sym same) h)

pub returns-clause-does : goal.returns-clause-does
returns-clause-does c =
    let r = c.args.self.now in
    let e = c.set_stage.ensures in
    let small : c.args.end ≤ r.start + r.limits.item = omega (arith, c.if-end-last.false, c.saturating_add-last.ensures) in
    let fits : nat_le c.args.end (r.start + r.limits.item) ≡ true = grind (arith, nat_tests, small) in
    gives_out (setting_of r) (spot_of r c.args.end) r.filter (given c.set_stage.new.self c.set_stage.new.self.filter) None
    (ap (λ (w : TextWalk). reverse w.frames.items) e ∙ c.requires.top) (ap (λ (w : TextWalk). w.noted) e ∙ c.requires.notes)
    (ap (λ (w : TextWalk). w.stage) e) refl fits
    (λ v h.
    let i = c.ends_plain.ensures.plain c.if-not-ends_plain.false v h in
    (i.0, subst (λ f. WasTold f []) (sym (ap (λ (w : TextWalk). w.filter) e)) i.1))
    (ap (λ (w : TextWalk). w.context) e) refl
