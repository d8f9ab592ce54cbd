use Rattle.std.proofs.Common.{◌-◌, length, take, drop, subst}
use Rattle.std.proofs.lemmas.List.{take_rest}
use Rattle.ion_text.specs.Names.{Ended}
use Rattle.ion_text.proofs.LastTokens.{ends_on}
use Rattle.ion_text.proofs.walk.TextWalk.read_inside.Goals as goal

pub returns : goal.returns
returns g c =
    let octets = c.args.octets.now in
    let n = c.read_nested.new.rest.used - c.args.rest.now.used in
    let front = c.in_ok-taken.ensures in
    ends_on g.V.Visitor.takes c.args.self.now c.read_nested.new.self c.read_close.new.self c.args.rest.now c.read_nested.new.rest
    c.read_close.new.rest octets (take (length octets - n) (drop n octets)) n c.args.visitor.now c.read_nested.new.visitor
    c.read_close.new.visitor (take_rest octets n) front.same
    (subst (λ t. Ended g.V.Visitor.takes c.args.self.now c.read_nested.new.self c.args.rest.now c.read_nested.new.rest octets (n, t)
    c.args.visitor.now c.read_nested.new.visitor) c.in-Uses.is front.ended) c.read_close.result c.read_close.ensures
