use Rattle.std.proofs.Common.{◌∙◌, ap, sym, rules, take}
use Rattle.std.proofs.lemmas.List.{take_rest}
use Rattle.ion_tokens.proofs.runs.EscapedTexts.{pair_leads}
use Rattle.ion_tokens.proofs.escapes.escape_by_pair.Goals as goal

pub returns-clause-leads : goal.returns-clause-leads
returns-clause-leads c =
    let octets = c.args.octets.now in
    let first = c.in_ok-high.ensures in
    let second = c.in_ok-low.ensures in
    pair_leads c.args.style octets first.0 second.0 _ _ c.in_ok-high.high c.in_ok-low.low (search rules) first.1
    (ap (take 6) (sym (take_rest octets 6)) ∙ second.1) first.2 second.2 first.3 second.3 (search rules) (search rules) c.in_ok-keep_number.ensures.kept
