use Rattle.std.proofs.Common.{◌+◌, drop, arith}
use Rattle.std.proofs.lemmas.List.{take_rest}
use Rattle.ion_scalar.specs.text.laws.ShortNumbers.{room_behind, scaled_decimal, short_decimal, short_int}
use Rattle.ion_scalar.proofs.short_number.short_body.Goals as goal

pub plain_digits-fraction-requires : goal.plain_digits-fraction-requires
plain_digits-fraction-requires c =
    let body = c.args.body.now in
    let whole = c.in-Some.whole in
    let is = c.in-Some.ensures in
    rw (take_rest body (whole.used + 1)) (room_behind body whole.used whole.value is.few (omega (arith, is.run.within, c.if-whole-body.false)) is.run)

pub returns-then-whole-body : goal.returns-then-whole-body
returns-then-whole-body c = λ x parts.
    let whole = c.in-Some.whole in
    let is = c.in-Some.ensures in
    let made = c.short_int.ensures x parts in
    short_int c.args.negative c.args.body.now whole.used whole.value x is.run c.if-whole-body.true is.whole made.0 made.1

pub returns-then-fraction-behind : goal.returns-then-fraction-behind
returns-then-fraction-behind c =
    let body = c.args.body.now in
    let whole = c.in-Some.whole in
    let is = c.in-Some.ensures in
    let behind = c.plain_digits-fraction in
    scaled_decimal c.args.negative body whole.used whole.value behind.result.used behind.result.value c.scaled_decimal.result is.run is.whole
    (omega (arith, is.run.within, c.if-whole-body.false)) c.if-body-whole-ne46.false (rw (take_rest body (whole.used + 1)) at behind.ensures)
    (rw (take_rest body (whole.used + 1), take_rest (drop (whole.used + 1) body) behind.result.used) at c.scaled_decimal.ensures)

pub returns : goal.returns
returns c = λ x parts.
    let body = c.args.body.now in
    let whole = c.in-Some.whole in
    let is = c.in-Some.ensures in
    let behind = c.plain_digits-fraction in
    let made = c.short_decimal.ensures x parts in
    short_decimal c.args.negative body whole.used whole.value behind.result.used behind.result.value x is.run is.whole
    (omega (arith, is.run.within, c.if-whole-body.false)) c.if-body-whole-ne46.false (rw (take_rest body (whole.used + 1)) at behind.ensures)
    (rw (take_rest body (whole.used + 1)) at c.if-fraction-behind.false) made.0 made.1
