use Rattle.std.proofs.Common.{◌-◌, length, take, drop, sym, subst}
use Rattle.std.proofs.lemmas.List.{take_rest}
use Rattle.ion_tokens.specs.Names.{RestsBehind}
use Rattle.ion_tokens.proofs.runs.WholeComments.{rests_on, white_rests}
use Rattle.ion_tokens.proofs.comments.blank_with_comments.Goals as goal

pub returns-clause-rests : goal.returns-clause-rests
returns-clause-rests c =
    let octets = c.args.octets.now in
    let n = c.blanks-blank.result in
    rests_on octets (take (length octets - n) (drop n octets)) n c.comments-more.result.0 _ _ _ (take_rest octets n)
    (subst (λ r. RestsBehind octets n c.args.rest r) (sym c.past_blank-behind.ensures)
    (white_rests octets n c.blanks-blank.ensures.within c.blanks-blank.ensures.passed c.args.rest)) c.comments-more.ensures
