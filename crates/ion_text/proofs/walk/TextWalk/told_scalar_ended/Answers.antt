use Rattle.ion_text.specs.Names.{ended, payload_of, setting_of, spot_of}
use Rattle.ion_text.proofs.Ended.{whole_does}
use Rattle.ion_text.proofs.Holding.{part_layer}
use Rattle.ion_text.proofs.walk.TextWalk.told_scalar_ended.Goals as goal

pub returns-clause-does : goal.returns-clause-does
returns-clause-does g c =
    let r = c.args.self.now in
    whole_does g.V.Visitor.takes (λ fs v. ended (setting_of r) (spot_of r c.args.end) fs v) r (payload_of c.args.said.now) c.part.new.self c.ended.result
    c.ended.new.self c.args.visitor.now c.part.new.visitor c.requires (part_layer c.args.said.now) (c.part.ensures c.in_ok-heard.ensures.ok) c.ended.ensures.does
