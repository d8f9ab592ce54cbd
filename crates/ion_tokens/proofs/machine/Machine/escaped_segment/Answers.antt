use Rattle.std.proofs.Common.{◌≡◌, ◌∷◌, ◌+◌, ◌-◌, ◌∙◌, sym, rules, subst, false, length, take, drop}
use Rattle.std.proofs.lemmas.List.{take_rest}
use Rattle.ion_tokens.specs.Names.{LeadsOn, Style, TokenKind}
use Rattle.ion_tokens.proofs.runs.EscapedTexts.{stands_as}
use Rattle.ion_tokens.proofs.runs.WholeTokens.{segment_stands}
use Rattle.ion_tokens.proofs.machine.Machine.escaped_segment.Goals as goal

pub returns : goal.returns
returns c =
    let behind = c.args.behind.now in
    let n = c.in_ok-count.count in
    let kept = c.before_quote.new.kept.items in
    let us = c.in_ok-strip_prefix.field-0.now in
    let leads = subst (λ old. LeadsOn Style.LongString (take n behind) old kept) c.requires c.in_ok-count.ensures.leads in
    let shuts : take (length behind - n) (drop n behind) ≡ 39 ∷ 39 ∷ 39 ∷ us = search rules in
    stands_as _ kept _ c.whole.result TokenKind.LongString (n + 6) false c.whole.ensures.token c.whole.ensures.ended
    (segment_stands behind kept us n c.in_ok-count.ensures.within (sym (take_rest behind n) ∙ shuts) leads)
