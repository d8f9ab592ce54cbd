use Rattle.std.proofs.Common.{◌-◌, length}
use Rattle.ion_tokens.specs.Usual.{is_usual}
use Rattle.ion_tokens.proofs.masks.LaneRuns.{GoesOnTo}
use Rattle.ion_tokens.proofs.front.usual_before.Given as goal

abbrev pub invariant-loop-at : goal.invariant-loop-at
invariant-loop-at l = GoesOnTo (is_usual l.quote) l.octets l.at

abbrev pub decreases-loop-at : goal.decreases-loop-at
decreases-loop-at l = length l.octets - l.at
