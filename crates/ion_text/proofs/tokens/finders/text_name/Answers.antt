use Rattle.std.proofs.Common.{◌-◌, ◌∙◌, Some, ap, sym, subst, take}
use Rattle.std.proofs.lemmas.List.{take_rest}
use Rattle.ion_text.specs.Names.{BeginsName}
use Rattle.ion_text.proofs.tokens.finders.text_name.Goals as goal

pub returns : goal.returns
returns c = λ here rest.
    let octets = c.args.octets.now in
    let token = c.in_ok-token.token in
    subst (λ w. BeginsName here rest octets token (Some w)) (sym (c.from_utf8_unchecked.ensures ∙ ap (take (token.count - 2)) (take_rest octets 1)))
    (c.in_ok-token.ensures.name here rest)
