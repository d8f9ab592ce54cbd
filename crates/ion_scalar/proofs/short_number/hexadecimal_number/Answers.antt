use Rattle.std.proofs.Common.{arith, refl}
use Rattle.ion_scalar.specs.text.laws.ShortNumbers.{hexadecimal_more, marked_end, room_hexadecimal}
use Rattle.ion_scalar.proofs.short_number.hexadecimal_number.Goals as goal

pub overflow_mul-value : goal.overflow_mul-value
overflow_mul-value c =
    let l = c.loop-used in
    let is = c.in-Some.ensures in
    let more = hexadecimal_more _ l.used l.value _ c.loop-used-test.true refl is.0.1 l.invariant in
    omega (arith, room_hexadecimal _ _ _ c.if-octets-gt-MOST_HEXADECIMAL.false more)

pub overflow_add-value : goal.overflow_add-value
overflow_add-value c =
    let l = c.loop-used in
    let is = c.in-Some.ensures in
    let more = hexadecimal_more _ l.used l.value _ c.loop-used-test.true refl is.0.1 l.invariant in
    rw (c.from.ensures, is.1) (omega (arith, room_hexadecimal _ _ _ c.if-octets-gt-MOST_HEXADECIMAL.false more))

pub loop-used-preserved : goal.loop-used-preserved
loop-used-preserved c =
    let l = c.loop-used in
    let is = c.in-Some.ensures in
    rw (c.from.ensures, is.1) (hexadecimal_more _ l.used l.value _ c.loop-used-test.true refl is.0.1 l.invariant)

pub returns : goal.returns
returns c = let l = c.loop-used in marked_end 16 _ l.used l.value l.invariant c.loop-used-test.false c.if-octets-lt1.false
