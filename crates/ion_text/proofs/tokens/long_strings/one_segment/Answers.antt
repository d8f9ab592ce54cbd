use Rattle.std.proofs.Common.{◌+◌, arith, [], refl, ap, sym, ◌∙◌, subst}
use Rattle.std.proofs.lemmas.List.{take_rest}
use Rattle.ion_text.specs.Names.{IsPassed, past_blank}
use Rattle.ion_text.specs.machine.LongStrings.{PassedSegment}
use Rattle.ion_text.proofs.LongStrings.{first_segment}
use Rattle.ion_text.proofs.tokens.long_strings.one_segment.Goals as goal

pub returns : goal.returns
returns c =
    let here = c.args.here in
    let rest = c.args.rest in
    let octets = c.args.octets.now in
    let n = c.in_ok-size.size in
    let text = c.in_ok-size.said.now in
    let between = c.blanks-between.result in
    let behind = c.past_blank-behind.result in
    let passed : PassedSegment here rest octets (n + between) behind [] text = record {
      size = n;
      blank = between;
      segment = c.in_ok-size.ensures.found here rest [];
      passed = subst (λ w. IsPassed w between) (take_rest octets n) c.blanks-between.ensures.passed;
      within = omega (arith, c.if-count-octets.false);
      total = refl;
      rests = c.past_blank-behind.ensures ∙ ap (λ r. past_blank r between) c.past_token.ensures;
    } in
    record {
      segments = first_segment here rest octets (n + between) behind [] text refl passed;
      more = c.if-count-octets.false;
      ends = sym c.ends_long.ensures ∙ c.if-not-ends_long.false;
    }
