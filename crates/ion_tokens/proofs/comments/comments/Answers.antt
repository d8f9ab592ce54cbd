use Rattle.std.proofs.Common.{◌+◌, ◌-◌, length, take, drop, sym, subst}
use Rattle.std.proofs.lemmas.List.{take_rest}
use Rattle.ion_tokens.specs.Names.{RestsBehind}
use Rattle.ion_tokens.proofs.runs.WholeComments.{rests_on, white_rests}
use Rattle.ion_tokens.proofs.comments.comments.Goals as goal

pub loop-preserved : goal.loop-preserved
loop-preserved c =
    let octets = c.args.octets.now in
    let at = c.loop.at in
    let n = c.in-Some.count in
    let k = c.blanks-blank.result in
    let comment = subst (λ r. RestsBehind (take (length octets - at) (drop at octets)) n c.loop.behind r) (sym c.past_comment-behind.ensures)
    (c.in-Some.ensures.rests c.loop.behind) in
    let blank = subst (λ r. RestsBehind (take (length octets - (at + n)) (drop (at + n) octets)) k c.past_comment-behind.result r) (sym c.past_blank-behind.ensures)
    (white_rests _ k c.blanks-blank.ensures.within c.blanks-blank.ensures.passed c.past_comment-behind.result) in
    rests_on octets (take (length octets - (at + n)) (drop (at + n) octets)) (at + n) k _ _ _ (take_rest octets (at + n))
    (rests_on octets (take (length octets - at) (drop at octets)) at n _ _ _ (take_rest octets at) c.loop.invariant comment) blank
