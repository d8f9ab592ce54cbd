use Rattle.std.proofs.Common.{◌-◌, length}
use Rattle.ion_text.specs.Names.{SameSetting, Strode}
use Rattle.ion_text.proofs.walk.TextWalk.read_each.Given as goal

-- the octets before `at` were taken up
abbrev pub invariant-loop-taken : goal.invariant-loop-taken
invariant-loop-taken g l =
    Strode g.V.Visitor.takes l.fn.self l.self l.fn.rest l.rest l.octets l.at l.fn.visitor l.visitor × SameSetting l.fn.self l.self

abbrev pub decreases-loop-taken : goal.decreases-loop-taken
decreases-loop-taken g l = length l.octets - l.at
