use Rattle.std.proofs.Common.{Some, ap, sym, subst}
use Rattle.ion_text.specs.Names.{Tells, TextWalk, name}
use Rattle.ion_text.proofs.Opened.{names_does}
use Rattle.ion_text.proofs.walk.TextWalk.named_by.Goals as goal

pub returns-clause-does : goal.returns-clause-does
returns-clause-does g c =
    let r = c.args.self.now in
    let e = c.set_stage.ensures in
    let s = Some c.args.text.now in
    names_does g.V.Visitor.takes r c.set_stage.new.self s c.args.visitor.now c.text_name.new.visitor c.requires
    (ap (λ (w : TextWalk). w.frames) e) (ap (λ (w : TextWalk). w.noted) e) (ap (λ (w : TextWalk). w.stage) e) (ap (λ (w : TextWalk). w.start) e)
    (ap (λ (w : TextWalk). w.context) e)
    (subst (λ f. Tells g.V.Visitor.takes (name s) r.filter f c.args.visitor.now c.text_name.new.visitor)
    (sym (ap (λ (w : TextWalk). w.filter) e)) (c.text_name.ensures c.in_ok-heard.ensures.ok))
