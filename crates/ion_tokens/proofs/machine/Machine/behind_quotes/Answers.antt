use Rattle.std.proofs.Common.{◌≡◌, ◌∷◌, ◌∙◌, [], sym, rules, subst, true}
use Rattle.ion_tokens.specs.Names.{IsFound, TokenKind}
use Rattle.ion_tokens.proofs.runs.EscapedTexts.{empty_stands, stands_as}
use Rattle.ion_tokens.proofs.machine.Machine.behind_quotes.Goals as goal

-- the empty symbol
pub returns : goal.returns
returns c =
    let first = c.in_ok-first.first.now in
    let content = c.in_ok-first.content.now in
    let is : c.args.behind.now ≡ first ∷ content = search rules in
    stands_as _ [] _ c.whole.result TokenKind.QuotedSymbol 2 true c.whole.ensures.token (c.whole.ensures.ended ∙ c.requires)
    (λ p r. subst (λ l. IsFound p r (39 ∷ 39 ∷ l) TokenKind.QuotedSymbol [] 2 true) (sym is) (empty_stands first content c.if-first-eq39.false p r))
