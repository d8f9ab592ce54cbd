use Rattle.std.proofs.Common.{ap, sym, subst}
use Rattle.ion_text.specs.Names.{Tells, TextWalk, name}
use Rattle.ion_text.proofs.Opened.{names_does}
use Rattle.ion_text.proofs.walk.TextWalk.named.Goals as goal

pub returns-clause-does : goal.returns-clause-does
returns-clause-does g c =
    let r = c.args.self.now in
    let e = c.set_stage.ensures in
    names_does g.V.Visitor.takes r c.set_stage.new.self c.args.name c.args.visitor.now c.name-told.new.visitor c.requires
    (ap (λ (w : TextWalk). w.frames) e) (ap (λ (w : TextWalk). w.noted) e) (ap (λ (w : TextWalk). w.stage) e) (ap (λ (w : TextWalk). w.start) e)
    (ap (λ (w : TextWalk). w.context) e)
    (subst (λ f. Tells g.V.Visitor.takes (name c.args.name) r.filter f c.args.visitor.now c.name-told.new.visitor)
    (sym (ap (λ (w : TextWalk). w.filter) e)) (c.name-told.ensures c.in_ok-heard.ensures.ok))
