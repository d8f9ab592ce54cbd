use Rattle.std.proofs.Common.{arith}
use Rattle.ion_tokens.specs.Names.{is_digit}
use Rattle.ion_tokens.proofs.masks.LaneRuns.{at_start, stops_at}
use Rattle.ion_tokens.proofs.front.few_digits.Goals as goal

pub returns : goal.returns
returns c =
    let octets = c.args.octets.now in
    let stops =
    stops_at is_digit octets 0 16 c.digit_ends-ends.result (at_start is_digit octets) (omega arith) (omega arith) c.digit_ends-ends.ensures (omega arith) in
    omega (arith, stops)
