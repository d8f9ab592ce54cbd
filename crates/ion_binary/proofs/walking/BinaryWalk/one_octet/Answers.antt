use Rattle.ion_binary.specs.Names.{Form, bare, deliver, payload_of, setting_of, spot_of, told}
use Rattle.ion_binary.proofs.Ending.{does_same}
use Rattle.ion_binary.proofs.Shells.{fits, may_begin, unfit_refused}
use Rattle.ion_binary.proofs.walking.BinaryWalk.one_octet.Goals as goal

pub returns-in-Some-clause-does : goal.returns-in-Some-clause-does
returns-in-Some-clause-does g c = λ fs h other.
    let r = c.args.self.now in
    unfit_refused r fs h Form.Struct r.used (deliver (setting_of r) (spot_of r) fs (bare (payload_of c.args.said.now))) c.in-Some.reason c.in-Some.ensures

pub returns-in-None-clause-does : goal.returns-in-None-clause-does
returns-in-None-clause-does g c = λ fs h.
    let r = c.args.self.now in
    let o = deliver (setting_of r) (spot_of r) fs (bare (payload_of c.args.said.now)) in
    does_same g.V.Visitor.takes (told fs) _ o c.whole.result c.whole.new.self c.args.visitor.now c.whole.new.visitor
    (fits r fs h Form.Struct r.used o c.in-None.ensures) (c.whole.ensures.does fs h (may_begin r fs h Form.Struct r.used c.in-None.ensures))
