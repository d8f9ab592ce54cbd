use Rattle.std.proofs.Common.{arith, ◌-◌, length, take, drop}
use Rattle.std.proofs.lemmas.List.{take_rest}
use Rattle.ion_tokens.proofs.runs.WholeComments.{line_rests, block_rests}
use Rattle.ion_tokens.proofs.comments.comment.Goals as goal

pub returns-else-count-content-clause-rests : goal.returns-else-count-content-clause-rests
returns-else-count-content-clause-rests c rest =
    let octets = c.args.octets.now in
    line_rests octets (take (length octets - 2) (drop 2 octets)) c.of_line-count.result (omega (arith, c.if-octets-lt2.false)) c.if-octets-ne47.false
    c.in-47.is (take_rest octets 2) c.of_line-count.ensures (omega (arith, c.if-count-content.false)) rest

pub returns-in_ok-count-in-42-clause-rests : goal.returns-in_ok-count-in-42-clause-rests
returns-in_ok-count-in-42-clause-rests c rest =
    let octets = c.args.octets.now in
    let block = c.in_ok-count-in-42.ensures in
    block_rests octets (take (length octets - 2) (drop 2 octets)) c.in_ok-count-in-42.count (omega (arith, c.if-octets-lt2.false)) c.if-octets-ne47.false
    c.in-42.is (take_rest octets 2) block.open block.within block.star block.slash rest
