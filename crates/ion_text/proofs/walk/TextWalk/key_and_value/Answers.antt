use Rattle.std.proofs.Common.{sym, subst, refl, ap, arith, ◌∙◌, ◌≡◌, ◌+◌, ◌-◌, ◌<◌, ◌≤◌, get_or, get_or-drop, length, take, drop, Some, inr}
use Rattle.ion_text.specs.walk.Inside.{StepsTo, behind_comma_now}
use Rattle.ion_text.specs.declared.walk.inside.Now.{Now}
use Rattle.ion_text.proofs.Inside.{blank_steps, comma_steps, steps_none, steps_on}
use Rattle.ion_text.proofs.walk.TextWalk.key_and_value.Goals as goal

pub returns-in-Value-clause-steps : goal.returns-in-Value-clause-steps
returns-in-Value-clause-steps g c = λ ok.
    let r = c.args.self.now in
    steps_on g.V.Visitor.takes r r c.field_inside.new.self c.args.spot.now c.key_inside.new.spot c.field_inside.new.spot c.args.octets.now
    c.args.visitor.now c.key_inside.new.visitor c.field_inside.new.visitor
    (c.key_inside.ensures.steps c.if-not-key_inside.false r c.requires.stands) (c.field_inside.ensures.steps ok)

pub returns-in_default-clause-steps : goal.returns-in_default-clause-steps
returns-in_default-clause-steps g c = λ ok. c.key_inside.ensures.steps c.if-not-key_inside.false c.args.self.now c.requires.stands
