use Rattle.std.proofs.Common.{arith}
use Rattle.ion_scalar.specs.text.laws.ShortNumbers.{plain_more, below_room}
use Rattle.ion_scalar.proofs.short_number.plain_digits.Goals as goal

pub overflow_mul-value : goal.overflow_mul-value
overflow_mul-value c =
    let l = c.loop-used in
    let more = plain_more c.args.octets.now c.args.before l.used l.value (omega arith) (omega arith) (omega arith) l.invariant in
    let small = below_room 10 _ _ _ (omega arith) more.room in
    omega (arith, small)

pub overflow_add-value : goal.overflow_add-value
overflow_add-value c =
    let l = c.loop-used in
    let more = plain_more c.args.octets.now c.args.before l.used l.value (omega arith) (omega arith) (omega arith) l.invariant in
    let small = below_room 10 _ _ _ (omega arith) more.room in
    omega (arith, small, c.from.ensures)

pub loop-used-preserved : goal.loop-used-preserved
loop-used-preserved c =
    let l = c.loop-used in
    rw c.from.ensures (plain_more c.args.octets.now c.args.before l.used l.value (omega arith) (omega arith) (omega arith) l.invariant)
