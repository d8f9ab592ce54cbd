use Rattle.std.proofs.Common.{◌≡◌, ◌∷◌, ◌-◌, ◌∙◌, sym, rules, length, take, drop}
use Rattle.std.proofs.lemmas.List.{take_rest}
use Rattle.ion_tokens.proofs.runs.LobsAtOnce.{segment_adds}
use Rattle.ion_tokens.proofs.lobs_at_once.clob_segment.Goals as goal

pub returns-clause-adds : goal.returns-clause-adds
returns-clause-adds c =
    let text = c.in_ok-text.text.now in
    let n = c.in_ok-count.count in
    let rest = c.in_ok-rest.rest.now in
    let opens : c.args.octets.now ≡ 39 ∷ 39 ∷ 39 ∷ text = search rules in
    let shuts : take (length text - n) (drop n text) ≡ 39 ∷ 39 ∷ 39 ∷ rest = search rules in
    segment_adds c.args.octets.now text rest _ _ n c.white.result opens c.in_ok-count.ensures.within (sym (take_rest text n) ∙ shuts) c.white.ensures
    c.in_ok-count.ensures.leads
