use Rattle.std.proofs.Common.{◌≢◌, rules, slice_index, subst, false, take, ◌+◌}
use Rattle.ion_tokens.specs.Names.{LeadsOn, Style, TokenKind}
use Rattle.ion_tokens.proofs.runs.EscapedTexts.{stands_as}
use Rattle.ion_tokens.proofs.runs.WholeTokens.{symbol_stands}
use Rattle.ion_tokens.proofs.machine.Machine.escaped_symbol.Goals as goal

pub returns : goal.returns
returns c =
    let behind = c.args.behind.now in
    let n = c.in_ok-count.count in
    let kept = c.before_quote.new.kept.items in
    let other : slice_index behind 0 ≢ 39 = search rules in
    let leads = subst (λ old. LeadsOn Style.QuotedSymbol (take n behind) old kept) c.requires c.in_ok-count.ensures.leads in
    stands_as _ kept _ c.whole.result TokenKind.QuotedSymbol (n + 2) false c.whole.ensures.token c.whole.ensures.ended
    (symbol_stands behind kept n c.in_ok-count.ensures.within c.in_ok-count.ensures.quote other leads)
