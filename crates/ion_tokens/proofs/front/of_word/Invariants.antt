use Rattle.std.proofs.Common.{◌-◌, length}
use Rattle.ion_tokens.specs.Names.{is_word_octet}
use Rattle.ion_tokens.proofs.masks.LaneRuns.{GoesOnTo}
use Rattle.ion_tokens.proofs.front.of_word.Given as goal

abbrev pub invariant-loop-at : goal.invariant-loop-at
invariant-loop-at l = GoesOnTo is_word_octet l.octets l.at

abbrev pub decreases-loop-at : goal.decreases-loop-at
decreases-loop-at l = length l.octets - l.at
