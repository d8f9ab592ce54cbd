use Rattle.std.proofs.Common.{◌≡◌, ◌+◌, ◌-◌, length, subst, arith}
use Rattle.ion_text_writer.specs.Names.{is_raw}
use Rattle.ion_tokens.proofs.masks.LaneRuns.{GoesOnTo, at_start, from_before, goes_through, is_all, stops_at}
use Rattle.ion_text_writer.proofs.escape.raw_front.Goals as goal

pub loop-at-init : goal.loop-at-init
loop-at-init c = at_start (is_raw c.args.quotes) c.args.octets.now

pub loop-at-preserved : goal.loop-at-preserved
loop-at-preserved c =
    goes_through (is_raw c.args.quotes) c.args.octets.now c.loop-at.at 16 c.escaped_lanes-escaped.result c.loop-at.invariant (omega arith)
    c.escaped_lanes-escaped.ensures (omega arith)

pub returns-then-escaped-ne0 : goal.returns-then-escaped-ne0
returns-then-escaped-ne0 c =
    stops_at (is_raw c.args.quotes) c.args.octets.now c.loop-at.at 16 c.escaped_lanes-escaped.result c.loop-at.invariant (omega arith) (omega arith)
    c.escaped_lanes-escaped.ensures (omega arith)

pub returns-then-escaped-ne0-2 : goal.returns-then-escaped-ne0-2
returns-then-escaped-ne0-2 c =
    let class = is_raw c.args.quotes in
    let octets = c.args.octets.now in
    let last = length octets - 16 in
    let on = from_before class octets c.loop-at.at last c.loop-at.invariant (omega arith) in
    stops_at class octets last 16 c.escaped_lanes-escaped-2.result on (omega arith) (omega arith) c.escaped_lanes-escaped-2.ensures (omega arith)

pub returns : goal.returns
returns c =
    let class = is_raw c.args.quotes in
    let octets = c.args.octets.now in
    let last = length octets - 16 in
    let on = from_before class octets c.loop-at.at last c.loop-at.invariant (omega arith) in
    let through = goes_through class octets last 16 c.escaped_lanes-escaped-2.result on (omega arith) c.escaped_lanes-escaped-2.ensures (omega arith) in
    let whole : last + 16 ≡ length octets = omega arith in
    is_all class octets (length octets) (subst (GoesOnTo class octets) whole through) (omega arith)
