use Rattle.std.proofs.Common.{arith}
use Rattle.std.proofs.lemmas.List.{take_rest}
use Rattle.ion_scalar.specs.Names.{number}
use Rattle.ion_scalar.specs.text.laws.Unsigned.{decimal_answer, float_body, int_answer, no_plain, no_plain_tail, whole_magnitude}
use Rattle.ion_scalar.proofs.number.plain_number.Goals as goal

pub returns-in_default : goal.returns-in_default
returns-in_default c = no_plain c.args.negative c.args.body.now c.requires c.in_default.ensures.none

pub returns-then-whole-body : goal.returns-then-whole-body
returns-then-whole-body c =
    let body = c.args.body.now in
    let w = c.in-Some.ensures in
    let m = whole_magnitude body c.in-Some.whole.used c.in-Some.whole.value c.if-whole-body.true w.whole w.value in
    int_answer c.args.negative body (number 10 body) c.in-Some.whole.value c.int_number.result m.0 m.1 c.int_number.ensures.ok c.int_number.ensures.err

pub returns-in-None : goal.returns-in-None
returns-in-None c =
    let body = c.args.body.now in
    let within = c.in-Some.ensures.within in
    no_plain_tail c.args.negative body c.in-Some.whole.used c.requires (omega (arith, c.if-whole-body.false)) c.in-Some.ensures.only
    (rw (take_rest body c.in-Some.whole.used) at c.in-None.ensures.none)

pub returns-in-Some-tail_of : goal.returns-in-Some-tail_of
returns-in-Some-tail_of c =
    let body = c.args.body.now in
    float_body body c.in-Some.whole.used c.in-Some.whole.value c.in-Some-tail_of.tail c.in-Some.ensures.whole
    (rw (take_rest body c.in-Some.whole.used) at c.in-Some-tail_of.ensures.some) c.if-tail.true

pub returns-in-Some-2 : goal.returns-in-Some-2
returns-in-Some-2 c =
    let body = c.args.body.now in
    decimal_answer c.args.negative body c.in-Some.whole.used c.in-Some.whole.value c.in-Some-tail_of.tail c.decimal_number.result c.in-Some.ensures.whole
    c.in-Some.ensures.value
    (rw (take_rest body c.in-Some.whole.used) at c.in-Some-tail_of.ensures.some) c.if-tail.false c.decimal_number.ensures.ok c.decimal_number.ensures.err
