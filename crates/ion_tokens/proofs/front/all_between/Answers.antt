use Rattle.std.proofs.Common.{arith}
use Rattle.ion_tokens.proofs.masks.LaneRuns.{goes_through, stops_at}
use Rattle.ion_tokens.proofs.front.all_between.Goals as goal

pub loop-at-preserved : goal.loop-at-preserved
loop-at-preserved c = goes_through _ c.args.octets.now c.loop-at.at 16 _ c.loop-at.invariant (omega arith) c.text_ends-ends.ensures (omega arith)

pub returns-then-ends-ne0 : goal.returns-then-ends-ne0
returns-then-ends-ne0 c = stops_at _ c.args.octets.now c.loop-at.at 16 _ c.loop-at.invariant (omega arith) (omega arith) c.text_ends-ends.ensures (omega arith)
