use Rattle.std.proofs.Common.{◌<◌, arith}
use lib.Count.{count_trailing_zeros}
use Rattle.ion_tokens.specs.Usual.{is_usual}
use Rattle.ion_tokens.proofs.masks.LaneRuns.{at_start, stops_at, stops_within}
use Rattle.ion_tokens.proofs.front.usual_ahead.Goals as goal

pub bounds-octets-count : goal.bounds-octets-count
bounds-octets-count c =
    let few : count_trailing_zeros 64 c.usual_ends-ends.result < 16 =
    stops_within (is_usual c.args.quote) c.args.octets.now 0 16 c.usual_ends-ends.result (omega arith) (omega arith) c.usual_ends-ends.ensures (omega arith) in
    omega arith

pub returns-clause-usual : goal.returns-clause-usual
returns-clause-usual c =
    let q = is_usual c.args.quote in
    let octets = c.args.octets.now in
    let stops = stops_at q octets 0 16 c.usual_ends-ends.result (at_start q octets) (omega arith) (omega arith) c.usual_ends-ends.ensures (omega arith) in
    omega (arith, stops)

pub returns-clause-within : goal.returns-clause-within
returns-clause-within c =
    let few : count_trailing_zeros 64 c.usual_ends-ends.result < 16 =
    stops_within (is_usual c.args.quote) c.args.octets.now 0 16 c.usual_ends-ends.result (omega arith) (omega arith) c.usual_ends-ends.ensures (omega arith) in
    omega arith
