use Rattle.std.proofs.Common.{◌-◌, length, take, drop, subst}
use Rattle.std.proofs.lemmas.List.{take_rest}
use Rattle.ion_text.specs.Names.{Ended}
use Rattle.ion_text.proofs.LastTokens.{ends_on}
use Rattle.ion_text.proofs.walk.TextWalk.read_open.Goals as goal

pub returns : goal.returns
returns g c =
    let octets = c.args.octets.now in
    let n = c.read_bracket.new.rest.used - c.args.rest.now.used in
    let front = c.in_ok-taken.ensures in
    ends_on g.V.Visitor.takes c.args.self.now c.read_bracket.new.self c.read_inside.new.self c.args.rest.now c.read_bracket.new.rest
    c.read_inside.new.rest octets (take (length octets - n) (drop n octets)) n c.args.visitor.now c.read_bracket.new.visitor
    c.read_inside.new.visitor (take_rest octets n) front.same
    (subst (λ t. Ended g.V.Visitor.takes c.args.self.now c.read_bracket.new.self c.args.rest.now c.read_bracket.new.rest octets (n, t)
    c.args.visitor.now c.read_bracket.new.visitor) c.in-Uses.is front.ended) c.read_inside.result c.read_inside.ensures
