use Rattle.std.proofs.Common.{◌≡◌, ◌∷◌, ◌+◌, ◌-◌, ◌∙◌, sym, rules, subst, false, length, take, drop}
use Rattle.std.proofs.lemmas.List.{take_rest}
use Rattle.ion_tokens.specs.Names.{LeadsOn, Style, TokenKind}
use Rattle.ion_tokens.proofs.runs.EscapedTexts.{found_as}
use Rattle.ion_tokens.proofs.runs.LobsAtOnce.{clob_stands}
use Rattle.ion_tokens.proofs.machine.Machine.clob_behind.Goals as goal

pub returns : goal.returns
returns c =
    let behind = c.args.behind.now in
    let text = c.in_ok-text.text.now in
    let before = c.white-before.result in
    let n = c.in_ok-count.count in
    let rest = take (length text - (n + 1)) (drop (n + 1) text) in
    let after = c.white-after.result in
    let kept = c.before_quote.new.kept.items in
    let us = c.in_ok-strip_prefix.field-0.now in
    let leads = subst (λ old. LeadsOn Style.ShortClob (take n text) old kept) c.requires.none_kept c.in_ok-count.ensures.leads in
    let opens : take (length behind - before) (drop before behind) ≡ 34 ∷ text = search rules in
    let shuts : take (length rest - after) (drop after rest) ≡ 125 ∷ 125 ∷ us = search rules in
    λ r. found_as c.args.place r _ kept _ c.whole.result TokenKind.Clob (before + n + after + 6) false c.whole.ensures.token c.whole.ensures.ended
    (clob_stands behind text rest us kept before n after c.white-before.ensures (sym (take_rest behind before) ∙ opens) c.in_ok-count.ensures.within
    c.in_ok-count.ensures.quote leads (take_rest text (n + 1)) c.white-after.ensures (sym (take_rest rest after) ∙ shuts) c.args.place c.requires.name r)
