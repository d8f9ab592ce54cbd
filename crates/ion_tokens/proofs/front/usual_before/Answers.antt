use Rattle.std.proofs.Common.{◌<◌, arith}
use lib.Count.{count_trailing_zeros}
use Rattle.ion_tokens.specs.Usual.{is_usual}
use Rattle.ion_tokens.proofs.masks.LaneRuns.{goes_through, stops_at, stops_within}
use Rattle.ion_tokens.proofs.front.usual_before.Goals as goal

pub loop-at-preserved : goal.loop-at-preserved
loop-at-preserved c = goes_through _ c.args.octets.now c.loop-at.at 16 _ c.loop-at.invariant (omega arith) c.usual_ends-ends.ensures (omega arith)

pub bounds-octets-count : goal.bounds-octets-count
bounds-octets-count c =
    let few : count_trailing_zeros 64 c.usual_ends-ends.result < 16 =
    stops_within (is_usual c.args.quote) c.args.octets.now c.loop-at.at 16 _ (omega arith) (omega arith) c.usual_ends-ends.ensures (omega arith) in
    omega arith

pub returns-then-octets-count-clause-usual : goal.returns-then-octets-count-clause-usual
returns-then-octets-count-clause-usual c = stops_at _ c.args.octets.now c.loop-at.at 16 _ c.loop-at.invariant (omega arith) (omega arith) c.usual_ends-ends.ensures (omega arith)

pub returns-then-octets-count-clause-within : goal.returns-then-octets-count-clause-within
returns-then-octets-count-clause-within c =
    let few : count_trailing_zeros 64 c.usual_ends-ends.result < 16 =
    stops_within (is_usual c.args.quote) c.args.octets.now c.loop-at.at 16 _ (omega arith) (omega arith) c.usual_ends-ends.ensures (omega arith) in
    omega arith
