use Rattle.std.proofs.Common.{sym, subst, refl, ap, arith, ◌∙◌, ◌≡◌, ◌+◌, ◌-◌, ◌<◌, ◌≤◌, get_or, get_or-drop, length, take, drop, Some, inr}
use Rattle.ion_text.specs.walk.Inside.{StepsTo, behind_comma_now}
use Rattle.ion_text.specs.declared.walk.inside.Now.{Now}
use Rattle.ion_text.proofs.Inside.{blank_steps, comma_steps, steps_none, steps_on}
use Rattle.ion_text.proofs.walk.TextWalk.token_inside.Goals as goal

pub returns-then-octets-spot-eq44-clause-steps : goal.returns-then-octets-spot-eq44-clause-steps
returns-then-octets-spot-eq44-clause-steps g c = λ ok.
    let s = c.args.spot.now in
    let at : s.at + 0 ≡ s.at = omega arith in
    comma_steps g.V.Visitor.takes c.args.self.now s c.past.new.self c.args.octets.now c.args.visitor.now c.requires.stands
    (inr (
      Now.Item,
      ap behind_comma_now c.in-BehindItem.is,
      c.past.ensures,
      get_or-drop s.at c.args.octets.now 0 0 ∙ (ap (λ k. get_or c.args.octets.now k 0) at ∙ c.if-octets-spot-eq44.true),
    )) (omega (arith, c.requires.ahead))

pub returns-then-octets-spot-eq44-2-clause-steps : goal.returns-then-octets-spot-eq44-2-clause-steps
returns-then-octets-spot-eq44-2-clause-steps g c = λ ok.
    let s = c.args.spot.now in
    let at : s.at + 0 ≡ s.at = omega arith in
    comma_steps g.V.Visitor.takes c.args.self.now s c.past-then-octets-spot-eq44-2.new.self c.args.octets.now c.args.visitor.now c.requires.stands
    (inr (
      Now.Name,
      ap behind_comma_now c.in-BehindField.is,
      c.past-then-octets-spot-eq44-2.ensures,
      get_or-drop s.at c.args.octets.now 0 0 ∙ (ap (λ k. get_or c.args.octets.now k 0) at ∙ c.if-octets-spot-eq44-2.true),
    )) (omega (arith, c.requires.ahead))
