use Rattle.std.proofs.Common.{sym, subst, refl, ap, arith, ◌∙◌, ◌≡◌, ◌+◌, ◌-◌, ◌<◌, ◌≤◌, get_or, get_or-drop, length, take, drop, Some, inr}
use Rattle.ion_text.specs.walk.Inside.{StepsTo, behind_comma_now}
use Rattle.ion_text.specs.declared.walk.inside.Now.{Now}
use Rattle.ion_text.proofs.Inside.{blank_steps, comma_steps, steps_none, steps_on}
use Rattle.ion_text.proofs.walk.TextWalk.field_inside.Goals as goal

pub returns-clause-steps : goal.returns-clause-steps
returns-clause-steps g c = λ ok.
    let r = c.args.self.now in
    let e = c.past_blank.ensures in
    let ahead = e.ahead c.if-not-past_blank.false in
    steps_on g.V.Visitor.takes r r c.value_inside.new.self c.args.spot.now c.past_blank.new.self c.value_inside.new.spot c.args.octets.now
    c.args.visitor.now c.args.visitor.now c.value_inside.new.visitor
    (blank_steps g.V.Visitor.takes r c.args.spot.now c.past_blank.new.self c.args.octets.now c.args.visitor.now c.requires.stands
    (e.blank c.if-not-past_blank.false) (omega (arith, c.if-octets-spot-lt-AHEAD.false)) (omega (arith, ahead))) (c.value_inside.ensures.steps ok)
