use Rattle.std.proofs.Common.{◌≡◌, ◌∷◌, ◌+◌, ◌-◌, ◌∙◌, sym, rules, subst, false, length, take, drop}
use Rattle.std.proofs.lemmas.List.{take_rest}
use Rattle.ion_tokens.specs.Names.{AddsSegments, TokenKind}
use Rattle.ion_tokens.proofs.runs.EscapedTexts.{found_as}
use Rattle.ion_tokens.proofs.runs.LobsAtOnce.{long_clob_stands}
use Rattle.ion_tokens.proofs.machine.Machine.long_clob_behind.Goals as goal

pub returns : goal.returns
returns c =
    let behind = c.args.behind.now in
    let before = c.white-before.result in
    let content = take (length behind - before) (drop before behind) in
    let n = c.in_ok-count.count in
    let kept = c.clob_segments.new.kept.items in
    let us = c.in_ok-strip_prefix.field-0.now in
    let adds = subst (λ old. AddsSegments (take n content) old kept) c.requires.none_kept c.in_ok-count.ensures.adds in
    let shuts : take (length content - n) (drop n content) ≡ 125 ∷ 125 ∷ us = search rules in
    λ r. found_as c.args.place r _ kept _ c.whole.result TokenKind.Clob (before + n + 4) false c.whole.ensures.token c.whole.ensures.ended
    (long_clob_stands behind content us kept before n c.white-before.ensures (take_rest behind before) c.in_ok-count.ensures.within
    (sym (take_rest content n) ∙ shuts) adds c.args.place c.requires.name r)
