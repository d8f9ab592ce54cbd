use Rattle.std.proofs.Common.{arith}
use Rattle.std.proofs.lemmas.List.{take_rest}
use Rattle.ion_scalar.specs.text.laws.UsualTokens.{short_end}
use Rattle.ion_scalar.proofs.timestamps.with_short_fraction.Goals as goal

pub returns : goal.returns
returns c =
    let os = c.args.octets.now in
    let r = c.plain_digits-digits.result in
    short_end os c.args.local r.used r.value c.with_offset.result c.plain_digits-digits.ensures (omega (arith, c.if-digits-eq0.false))
    c.if-octets-gt-MOST_SHORT_OCTETS.false (rw (c.from.ensures, take_rest os r.used) at c.with_offset.ensures)
