use Rattle.ion_text.specs.Names.{ended, number_payload, setting_of, spot_of}
use Rattle.ion_text.proofs.Ended.{whole_does}
use Rattle.ion_text.proofs.Holding.{number_layer}
use Rattle.ion_text.proofs.walk.TextWalk.number_ended.Goals as goal

pub returns-clause-does : goal.returns-clause-does
returns-clause-does g c =
    let r = c.args.self.now in
    whole_does g.V.Visitor.takes (λ fs v. ended (setting_of r) (spot_of r c.args.end) fs v) r (number_payload c.args.number) c.number.new.self c.ended.result
    c.ended.new.self c.args.visitor.now c.number.new.visitor c.requires (number_layer c.args.number) (c.number.ensures c.in_ok-heard.ensures.ok) c.ended.ensures.does
