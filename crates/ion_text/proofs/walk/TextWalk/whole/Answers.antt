use Rattle.std.proofs.Common.{Some, ap}
use Rattle.ion_text.specs.Names.{ended, payload_of, setting_of, spot_of}
use Rattle.ion_text.proofs.Ended.{whole_does}
use Rattle.ion_text.proofs.Holding.{part_layer}
use Rattle.ion_text.proofs.walk.TextWalk.whole.Goals as goal

pub returns-in-Some-clause-does : goal.returns-in-Some-clause-does
returns-in-Some-clause-does g c =
    let r = c.args.self.now in
    let said = payload_of c.args.said.now in
    whole_does g.V.Visitor.takes (λ fs v. ended (setting_of r) (spot_of r c.args.end) fs v) r said c.any_part.new.self c.ended.result
    c.ended.new.self c.args.visitor.now c.any_part.new.visitor c.requires (part_layer c.args.said.now)
    (c.in-Some.ensures.told (ap Some c.in_ok-heard.ensures.ok) said) c.ended.ensures.does
