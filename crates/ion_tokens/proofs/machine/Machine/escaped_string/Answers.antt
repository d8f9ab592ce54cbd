use Rattle.std.proofs.Common.{subst, false, take, ◌+◌}
use Rattle.ion_tokens.specs.Names.{LeadsOn, Style, TokenKind}
use Rattle.ion_tokens.proofs.runs.EscapedTexts.{stands_as}
use Rattle.ion_tokens.proofs.runs.WholeTokens.{string_stands}
use Rattle.ion_tokens.proofs.machine.Machine.escaped_string.Goals as goal

pub returns : goal.returns
returns c =
    let behind = c.args.behind.now in
    let n = c.in_ok-count.count in
    let kept = c.before_quote.new.kept.items in
    let leads = subst (λ old. LeadsOn Style.ShortString (take n behind) old kept) c.requires c.in_ok-count.ensures.leads in
    stands_as _ kept _ c.whole.result TokenKind.ShortString (n + 2) false c.whole.ensures.token c.whole.ensures.ended
    (string_stands behind kept n c.in_ok-count.ensures.within c.in_ok-count.ensures.quote leads)
