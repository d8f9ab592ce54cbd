use Rattle.std.proofs.Common.{ap, sym, subst, ◌∙◌}
use Rattle.ion_text.specs.Names.{Tells, TextWalk, opens}
use Rattle.ion_text.proofs.Opened.{entered}
use Rattle.ion_text.proofs.walk.TextWalk.enter.Goals as goal

pub returns-clause-enters : goal.returns-clause-enters
returns-clause-enters g c =
    let r = c.args.self.now in
    let e = c.set_stage.ensures in
    entered g.V.Visitor.takes r c.set_stage.new.self c.args.bracket c.args.visitor.now c.open.new.visitor c.requires
    (ap (λ (w : TextWalk). w.frames.items) e ∙ c.in_ok-push.ensures.items) (ap (λ (w : TextWalk). w.noted) e)
    (ap (λ (w : TextWalk). w.stage) e ∙ c.first_now.ensures) (ap (λ (w : TextWalk). w.start) e) (ap (λ (w : TextWalk). w.context) e)
    (subst (λ f. Tells g.V.Visitor.takes (opens c.args.bracket) r.filter f c.args.visitor.now c.open.new.visitor)
    (sym (ap (λ (w : TextWalk). w.filter) e)) (c.open.ensures c.in_ok-heard.ensures.ok))
