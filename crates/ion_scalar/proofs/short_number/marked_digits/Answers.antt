use Rattle.std.proofs.Common.{arith}
use Rattle.ion_scalar.specs.text.laws.ShortNumbers.{marked_more, marked_end, room_decimal}
use Rattle.ion_scalar.proofs.short_number.marked_digits.Goals as goal

pub overflow_mul-value : goal.overflow_mul-value
overflow_mul-value c =
    let l = c.loop-used in
    let is = c.in-Some.ensures in
    let more = marked_more 10 _ l.used _ l.value (omega arith) (omega arith) c.next_place-at.ensures is.0.0 is.0.1 l.invariant in
    omega (arith, room_decimal _ _ _ c.requires.few more)

pub overflow_add-value : goal.overflow_add-value
overflow_add-value c =
    let l = c.loop-used in
    let is = c.in-Some.ensures in
    let more = marked_more 10 _ l.used _ l.value (omega arith) (omega arith) c.next_place-at.ensures is.0.0 is.0.1 l.invariant in
    rw (c.from.ensures, is.1) (omega (arith, room_decimal _ _ _ c.requires.few more))

pub loop-used-preserved : goal.loop-used-preserved
loop-used-preserved c =
    let l = c.loop-used in
    let is = c.in-Some.ensures in
    rw (c.from.ensures, is.1) (marked_more 10 _ l.used _ l.value (omega arith) (omega arith) c.next_place-at.ensures is.0.0 is.0.1 l.invariant)

pub returns : goal.returns
returns c = let l = c.loop-used in marked_end 10 _ l.used l.value l.invariant c.loop-used-test.false c.requires.some
