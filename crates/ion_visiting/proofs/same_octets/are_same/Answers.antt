use Rattle.std.proofs.Common.{arith}
use Rattle.ion_visiting.proofs.SameOctets.{all_same, more_same}
use Rattle.ion_visiting.proofs.same_octets.are_same.Goals as goal

pub loop-at-preserved : goal.loop-at-preserved
loop-at-preserved c = more_same c.args.first.now c.args.second.now c.loop-at.at c.loop-at.invariant (omega arith) (c.have_same_lanes.ensures (search))

pub returns : goal.returns
returns c = λ is. all_same c.args.first.now c.args.second.now c.loop-at.at c.loop-at.invariant (omega arith) (omega arith) (c.have_same_lanes-2.ensures is)
