use Rattle.std.proofs.Common.{sym, ◌∙◌}
use Rattle.ion_tokens.proofs.runs.PlainNumerals.{int_found}
use Rattle.ion_tokens.proofs.plain_tokens.with_end.Goals as goal

pub returns : goal.returns
returns c =
    let w = int_found c.args.octets.now c.args.whole c.requires.digits c.requires.some c.requires.few c.requires.first c.if-whole-octets.false
    (sym c.is_stop.ensures ∙ c.if-not-is_stop.false) in
    record { within = w.within; reads = w.reads; digits = w.digits; found = w.found }
