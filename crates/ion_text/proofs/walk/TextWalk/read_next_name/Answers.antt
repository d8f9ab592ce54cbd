use Rattle.std.proofs.Common.{◌<◌, length, arith, sym, subst}
use Rattle.std.proofs.lemmas.List.{take_rest}
use Rattle.ion_text.specs.Names.{RestsBehind}
use Rattle.ion_tokens.proofs.runs.WholeComments.{white_rests}
use Rattle.ion_text.proofs.LastTokens.{ends_on}
use Rattle.ion_text.proofs.WholeTokens.{blank_strode, settings_none}
use Rattle.ion_text.proofs.walk.TextWalk.read_next_name.Goals as goal

pub returns : goal.returns
returns g c =
    let octets = c.args.octets.now in
    let n = c.blanks-blank.result in
    let more : n < length octets = omega (arith, c.if-octets-blank-lt2.false) in
    ends_on _ _ c.args.self.now _ _ c.go_past_blank.new.rest _ octets _ n _ c.args.visitor.now _ (take_rest octets n) (settings_none _)
    (blank_strode _ _ _ _ _ _ _ (subst (λ r. RestsBehind octets n c.args.rest.now r) (sym c.go_past_blank.ensures)
    (white_rests octets n c.blanks-blank.ensures.within c.blanks-blank.ensures.passed c.args.rest.now)) more) c.read_name.result c.read_name.ensures
