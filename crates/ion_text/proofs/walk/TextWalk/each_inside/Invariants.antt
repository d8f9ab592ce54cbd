use Rattle.std.proofs.Common.{◌-◌, length}
use Rattle.ion_text.specs.Names.{SameSetting}
use Rattle.ion_text.specs.walk.Inside.{StepsTo}
use Rattle.ion_text.proofs.walk.TextWalk.each_inside.Given as goal

-- the octets before the spot were taken up
abbrev pub invariant-loop-spot : goal.invariant-loop-spot
invariant-loop-spot g l = StepsTo g.V.Visitor.takes l.fn.self l.self l.fn.spot l.spot l.octets l.fn.visitor l.visitor × SameSetting l.fn.self l.self

abbrev pub decreases-loop-spot : goal.decreases-loop-spot
decreases-loop-spot g l = length l.octets - l.spot.at
