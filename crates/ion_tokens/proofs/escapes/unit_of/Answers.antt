use Rattle.std.proofs.Common.{◌≡◌, ◌∷◌, ap, rules, arith, length, take}
use Rattle.std.proofs.lemmas.List.{length-take-le}
use Rattle.std.proofs.lemmas.Option.{IfSome_then}
use Rattle.ion_tokens.proofs.escapes.unit_of.Goals as goal

pub returns : goal.returns
returns c =
    let digits = c.in_ok-digits.digits.now in
    let opens : c.args.octets.now ≡ 92 ∷ 117 ∷ digits = search rules in
    let four : length (take 4 digits) ≡ 4 = length-take-le 4 digits (omega (arith, c.if-digits-lt4.false)) in
    IfSome_then c.number_of.result c.number_of.ensures (λ number h. (take 4 digits, ap (take 6) opens, four, h))
