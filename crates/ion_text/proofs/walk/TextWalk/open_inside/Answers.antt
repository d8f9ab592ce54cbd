use Rattle.std.proofs.Common.{◌≡◌, ◌+◌, ◌<◌, ◌∙◌, length, ap, sym, subst, refl, arith}
use Rattle.ion_text.specs.Names.{TextWalk}
use Rattle.ion_text.specs.walk.Inside.{StepsTo, past_spot}
use Rattle.ion_text.proofs.Inside.{open_steps}
use Rattle.ion_text.proofs.walk.TextWalk.open_inside.Goals as goal

pub returns-clause-steps : goal.returns-clause-steps
returns-clause-steps g c = λ ok.
    let r = c.args.self.now in
    let s = c.args.spot.now in
    let octets = c.args.octets.now in
    let new : TextWalk = record r { frames = c.push.new.self } in
    let a = c.args.visitor.now in
    let b = c.open.new.self in
    subst (λ t. StepsTo g.V.Visitor.takes r new s t octets a b) (sym (c.past.ensures ∙ ap (past_spot s 1) c.first_inside.ensures))
    (open_steps g.V.Visitor.takes r new s octets c.args.bracket a b c.requires.stands c.requires.value (omega (arith, c.requires.ahead)) c.requires.opens
    (sym c.has_room.ensures ∙ c.if-not-has_room.false) refl c.in-Ok.ensures.items (c.open.ensures c.if-not-open.false))
