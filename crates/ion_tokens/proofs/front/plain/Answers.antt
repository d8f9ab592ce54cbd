use Rattle.std.proofs.Common.{Bool, ℕ, length, ap, ◌∙◌}
use Rattle.std.specs.List.{take_while}
use Rattle.ion_tokens.specs.Names.{is_between, is_long}
use Rattle.ion_tokens.proofs.front.plain.Goals as goal

pub returns : goal.returns
returns c =
    let octets = c.args.octets.now in
    c.all_between.ensures
    ∙ ap (λ (long : Bool). length (take_while (is_between long c.quote_of.result) octets)) c.is_long.ensures
    ∙ ap (λ (quote : ℕ). length (take_while (is_between (is_long c.args.style) quote) octets)) c.quote_of.ensures
