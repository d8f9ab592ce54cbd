use Rattle.std.proofs.Common.{◌-◌, length}
use Rattle.ion_visiting.proofs.SameOctets.{SameFront}
use Rattle.ion_visiting.proofs.same_octets.are_same.Given as goal

abbrev pub invariant-loop-at : goal.invariant-loop-at
invariant-loop-at l = SameFront l.first l.second l.at

abbrev pub decreases-loop-at : goal.decreases-loop-at
decreases-loop-at l = length l.first - l.at
