use Rattle.std.proofs.Common.{◌-◌, length}
use Rattle.ion_text_writer.specs.Names.{is_raw}
use Rattle.ion_tokens.proofs.masks.LaneRuns.{GoesOnTo}
use Rattle.ion_text_writer.proofs.escape.raw_front.Given as goal

abbrev pub invariant-loop-at : goal.invariant-loop-at
invariant-loop-at l = GoesOnTo (is_raw l.quotes) l.octets l.at

abbrev pub decreases-loop-at : goal.decreases-loop-at
decreases-loop-at l = length l.octets - l.at
