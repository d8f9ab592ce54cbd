use Rattle.std.proofs.Common.{sym, refl, ◌∙◌, arith, rules}
use Rattle.ion_tokens.proofs.runs.PlainNumerals.{whole_numeral}
use Rattle.ion_tokens.proofs.plain_tokens.plain_numeral.Goals as goal

pub returns : goal.returns
returns c =
    let split = c.split_sign-negative.ensures in
    let found = c.in_ok-found.found in
    let whole = whole_numeral c.split_sign-negative.result.0 c.args.octets.now c.split_sign-negative.result.1.now found.whole found.count _ split.sign
    split.octets c.in_ok-found.ensures (omega (arith, c.if-found-body.false)) (sym c.is_stop.ensures ∙ c.if-not-is_stop.false) refl in
    record { found = whole.found; reads = whole.reads; digits = whole.digits; within = search rules }
