use Rattle.std.proofs.Common.{Some, ap}
use Rattle.ion_text.specs.Names.{ended, setting_of, spot_of}
use Rattle.ion_text.proofs.Ended.{whole_does}
use Rattle.ion_text.proofs.walk.TextWalk.let_go_ended.Goals as goal

pub returns-clause-does : goal.returns-clause-does
returns-clause-does g c = λ payload of leaf.
    let r = c.args.self.now in
    whole_does g.V.Visitor.takes (λ fs w. ended (setting_of r) (spot_of r c.args.end) fs w) r payload c.of_kind.new.self c.ended.result
    c.ended.new.self c.args.visitor.now c.of_kind.new.visitor c.requires leaf
    (c.in-Some.ensures.told (ap Some c.in_ok-heard.ensures.ok) payload of) c.ended.ensures.does
