use Rattle.std.proofs.Common.{arith}
use Rattle.ion_scalar.specs.text.laws.ShortNumbers.{plain_end, nine_digits}
use Rattle.ion_scalar.proofs.short_number.short_signed.Goals as goal

pub overflow_cast-result : goal.overflow_cast-result
overflow_cast-result c =
    let small = nine_digits _ _ _ c.plain_digits-written.ensures c.if-written-digits.false c.if-digits-gt-MOST_EXPONENT.false in
    omega (arith, small)

pub returns : goal.returns
returns c =
    let run = c.plain_digits-written.ensures in
    let small = nine_digits _ _ _ run c.if-written-digits.false c.if-digits-gt-MOST_EXPONENT.false in
    let is = plain_end _ _ _ run c.if-written-digits.false (omega (arith, run.within, c.if-written-eq0.false)) in
    (rw is.1 (c.exponent_sign-below.ensures is.0), small)
