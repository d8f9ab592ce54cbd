use Rattle.std.proofs.Common.{◌∙◌, ◌-◌, ap, sym, subst, refl, Ok, arith}
use Rattle.ion_text.specs.Names.{EndsBy, Taken, TextWalk}
use Rattle.ion_text.specs.walk.Inside.{noted_now}
use Rattle.ion_text.proofs.Inside.{read_so}
use Rattle.ion_text.proofs.WholeTokens.{settings_on}
use Rattle.ion_text.proofs.walk.TextWalk.read_nested.Goals as goal

pub returns : goal.returns
returns g c =
    let r = c.args.self.now in
    let takes = g.V.Visitor.takes in
    let e = c.each_inside.ensures in
    let spot = c.each_inside.new.spot in
    subst (λ q. EndsBy takes r c.set_stage.new.self c.args.rest.now q c.args.octets.now (Ok Taken.Uses) c.args.visitor.now c.each_inside.new.visitor)
    (sym c.rest.ensures)
    (read_so takes r c.each_inside.new.self c.set_stage.new.self c.in-Some.now c.each_inside.new.spot c.args.rest.now c.args.octets.now c.args.visitor.now
    c.each_inside.new.visitor c.in-Some.ensures.stage c.in-Some.ensures.noted (omega (arith, c.if-rest.false)) c.requires.room (e.steps c.if-not-each_inside.false)
    (c.set_stage.ensures ∙ (ap (λ n. record c.each_inside.new.self { noted = n; stage = c.stage_now.result }) c.noted_now-self.ensures
    ∙ ap (λ s. record c.each_inside.new.self { noted = noted_now spot.now; stage = s }) c.stage_now.ensures)))
