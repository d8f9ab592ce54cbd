use Rattle.std.proofs.Common.{◌+◌, drop, length, arith}
use Rattle.std.proofs.lemmas.List.{take_rest}
use Rattle.ion_scalar.specs.text.laws.PlainNumerals.{body_numeral, fraction_digits, plain_decimal, plain_int, whole_ends}
use Rattle.ion_scalar.specs.text.laws.ShortNumbers.{room_behind}
use Rattle.ion_scalar.proofs.plain_number.plain_number_of.Goals as goal

pub returns-then-whole-body : goal.returns-then-whole-body
returns-then-whole-body c = λ x parts.
    let split = c.split_sign-negative.ensures in
    let negative = c.split_sign-negative.result.0 in
    let body = c.split_sign-negative.result.1.now in
    let h = body_numeral negative c.args.token.now body c.args.whole split.sign split.octets c.requires in
    let made = c.short_int.ensures x parts in
    plain_int negative c.args.token.now body c.args.whole c.known_digits-front.result x split.sign split.octets h c.known_digits-front.ensures
    c.if-whole-body.true made.0 made.1

pub known_digits-magnitude-requires-clause-digits : goal.known_digits-magnitude-requires-clause-digits
known_digits-magnitude-requires-clause-digits c =
    let split = c.split_sign-negative.ensures in
    let body = c.split_sign-negative.result.1.now in
    let h = body_numeral c.split_sign-negative.result.0 c.args.token.now body c.args.whole split.sign split.octets c.requires in
    rw (take_rest body (c.args.whole + 1)) (fraction_digits body c.args.whole h (whole_ends body c.args.whole h c.if-whole-body.false).0)

pub known_digits-magnitude-requires-clause-room : goal.known_digits-magnitude-requires-clause-room
known_digits-magnitude-requires-clause-room c =
    let split = c.split_sign-negative.ensures in
    let body = c.split_sign-negative.result.1.now in
    let h = body_numeral c.split_sign-negative.result.0 c.args.token.now body c.args.whole split.sign split.octets c.requires in
    rw (take_rest body (c.args.whole + 1))
    (room_behind body c.args.whole c.known_digits-front.result h.0.few (whole_ends body c.args.whole h c.if-whole-body.false).0 c.known_digits-front.ensures)

pub returns : goal.returns
returns c = λ x parts.
    let split = c.split_sign-negative.ensures in
    let negative = c.split_sign-negative.result.0 in
    let body = c.split_sign-negative.result.1.now in
    let whole = c.args.whole in
    let h = body_numeral negative c.args.token.now body whole split.sign split.octets c.requires in
    let rest = drop (whole + 1) body in
    let made = (rw (take_rest body (whole + 1)) at c.short_decimal.ensures) x parts in
    plain_decimal negative c.args.token.now body whole c.known_digits-front.result (length rest) c.known_digits-magnitude.result x split.sign split.octets
    h c.known_digits-front.ensures c.if-whole-body.false (rw (take_rest body (whole + 1)) at c.known_digits-magnitude.ensures) (omega arith) made.0 made.1
