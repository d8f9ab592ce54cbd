use Rattle.std.proofs.Common.{Ok}
use Rattle.ion_binary.specs.Names.{Goes, proceed, setting_of, spot_of, told}
use Rattle.ion_binary.proofs.Tellings.{does_alone}
use Rattle.ion_binary.proofs.walking.BinaryWalk.proceed.Goals as goal

pub returns-then-goes_inside-clause-does : goal.returns-then-goes_inside-clause-does
returns-then-goes_inside-clause-does g c = λ fs h.
    let r = c.args.self.now in
    does_alone g.V.Visitor.takes (told fs) (proceed (setting_of r) (spot_of r) fs) (Ok Goes) c.goes_inside.new.self c.args.visitor.now
    (c.goes_inside.ensures.does c.if-goes_inside.true fs h)
