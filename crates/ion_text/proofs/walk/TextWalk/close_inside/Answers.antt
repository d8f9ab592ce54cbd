use Rattle.std.proofs.Common.{◌≡◌, ◌+◌, ◌<◌, ◌∙◌, length, get_or, ap, sym, subst, refl, arith, get_or-drop}
use Rattle.ion_text.specs.Names.{TextWalk}
use Rattle.ion_text.specs.walk.Inside.{CommaSteps, StepsTo, past_spot}
use Rattle.ion_text.proofs.Inside.{close_steps, closes_there, comma_steps, steps_on}
use Rattle.ion_text.proofs.Opened.{popped}
use Rattle.ion_text.proofs.walk.TextWalk.close_inside.Goals as goal

pub returns-in-Some-clause-steps : goal.returns-in-Some-clause-steps
returns-in-Some-clause-steps g c = λ ok.
    let r = c.args.self.now in
    let s = c.args.spot.now in
    let octets = c.args.octets.now in
    let x = c.args.bracket in
    let new : TextWalk = record r { frames = c.pop-closed.new.self } in
    let a = c.args.visitor.now in
    let b = c.close.new.self in
    let at : s.at + 0 ≡ s.at = omega arith in
    let nested : 1 < length r.frames.items = omega (arith, c.if-len-lt2.false, c.len.ensures) in
    let next = c.in-Some.now in
    let t = past_spot s 1 next in
    let closed : StepsTo g.V.Visitor.takes r new s t octets a b =
    (close_steps g.V.Visitor.takes r new s octets x c.in-Some.now a b c.requires.stands (omega (arith, c.requires.ahead)) c.requires.closes c.requires.may
    (get_or-drop s.at octets 0 0 ∙ (ap (λ k. get_or octets k 0) at ∙ (c.if-octets-spot.false ∙ c.requires.octet))) nested refl
    (popped x r.frames.items c.pop-closed.new.self.items c.pop-closed.result c.pop-closed.ensures.items
    (λ k. c.pop-closed.ensures.variant.1 (omega (arith, k, r.frames.ok.0))) (closes_there r s.now x c.requires.stands c.requires.closes))
    (sym c.around_now.ensures ∙ c.in-Some.is) (c.close.ensures c.if-not-close.false)) in
    steps_on g.V.Visitor.takes r new new s t c.comma_at_once.new.spot octets a b b closed
    (comma_steps g.V.Visitor.takes new t c.comma_at_once.new.spot octets b closed.stands
    (subst (λ u. CommaSteps u c.comma_at_once.new.spot octets) c.past.ensures c.comma_at_once.ensures) (omega (arith, c.requires.ahead)))
