use Rattle.std.proofs.Common.{◌≡◌, ◌-◌, ◌++◌, ◌∙◌, take, drop, ap}
use Rattle.std.proofs.lemmas.List.{take_rest}
use Rattle.ion_text.proofs.TokenSteps.{long_says}
use Rattle.ion_text.proofs.tokens.long_strings.plain_segment.Goals as goal

pub returns-clause-found : goal.returns-clause-found
returns-clause-found c = λ here rest old.
    let octets = c.args.octets.now in
    let n = c.in_ok-size.size in
    let kept = take (n - 6) (drop 3 octets) in
    let said_is : c.from_utf8_unchecked.result.now ≡ kept = c.from_utf8_unchecked.ensures ∙ ap (take (n - 6)) (take_rest octets 3) in
    record {
      kept = kept;
      more = kept;
      found = c.in_ok-size.ensures.found here rest;
      says = long_says kept c.in_ok-size.ensures.text;
      joined = ap (λ w. old ++ w) said_is;
    }
