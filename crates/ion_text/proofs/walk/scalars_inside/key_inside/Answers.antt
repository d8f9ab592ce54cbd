use Rattle.std.proofs.Common.{◌≡◌, ◌<◌, ◌≤◌, ◌-◌, ◌+◌, ◌∙◌, Some, length, take, drop, get_or, ap, sym, subst, arith, length-drop}
use Rattle.std.proofs.lemmas.List.{take_rest}
use Rattle.ion_text.specs.Names.{IsPassed}
use Rattle.ion_text.specs.walk.Inside.{StepsTo}
use Rattle.ion_text.proofs.Inside.{key_steps, steps_none}
use Rattle.ion_text.proofs.walk.scalars_inside.key_inside.Goals as goal

pub returns-clause-steps : goal.returns-clause-steps
returns-clause-steps g c = λ ok r stands.
    let s = c.args.spot.now in
    let octets = c.args.octets.now in
    let there = take_rest octets s.at in
    let whole : length (take (length octets - s.at) (drop s.at octets)) ≡ length (drop s.at octets) = ap (λ (w : _). length w) there in
    let e = c.in-Some.ensures in
    let n = c.args.token.count in
    let m = c.in-Some.between in
    subst (λ t. StepsTo g.V.Visitor.takes r r s t octets c.args.visitor.now c.name.new.self) (sym c.past.ensures)
    (key_steps g.V.Visitor.takes r s octets c.args.token m (Some c.args.text.now) c.args.visitor.now c.name.new.self stands c.requires.name c.requires.within
    (omega (arith, whole, e.within)) c.requires.found (subst (λ d. IsPassed (drop n d) m) there e.passed) (sym (ap (λ d. get_or d (n + m) 0) there) ∙ e.colon)
    (λ x. e.one (ap (λ d. get_or d (n + m + 1) 0) there ∙ x)) (c.name.ensures c.if-not-name.false))
