use Rattle.std.proofs.Common.{◌+◌, arith}
use Rattle.std.proofs.lemmas.List.{take_rest}
use Rattle.ion_tokens.proofs.runs.PlainNumerals.{int_there, point_there}
use Rattle.ion_tokens.proofs.plain_tokens.with_fraction.Goals as goal

pub returns-then-whole-octets : goal.returns-then-whole-octets
returns-then-whole-octets c = int_there c.args.octets.now c.args.whole c.requires.digits c.requires.some c.requires.few c.requires.first

pub returns : goal.returns
returns c =
    let octets = c.args.octets.now in
    let whole = c.args.whole in
    point_there octets whole c.in_ok-fraction.fraction c.requires.digits c.requires.some c.requires.first (omega (arith, c.if-whole-octets.false))
    c.if-octets-whole-ne46.false (rw (take_rest octets (whole + 1)) at c.in_ok-fraction.ensures) (omega (arith, c.if-count-gt-MOST_OF_NUMERAL.false))
