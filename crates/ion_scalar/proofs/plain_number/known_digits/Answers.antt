use Rattle.std.proofs.Common.{◌≡◌, ℕ, subst, arith}
use Rattle.ion_scalar.specs.text.laws.ShortNumbers.{PlainRun, plain_more, below_room}
use Rattle.ion_scalar.proofs.plain_number.known_digits.Goals as goal

pub overflow_mul-value : goal.overflow_mul-value
overflow_mul-value c =
    let l = c.loop-used in
    let digit = c.requires.digits l.used c.loop-used-test.true in
    let more = plain_more c.args.octets.now c.args.before l.used l.value (omega arith) digit.0 digit.1 l.invariant.run in
    let small = below_room 10 _ _ _ (omega arith) more.room in
    omega (arith, small)

pub overflow_add-value : goal.overflow_add-value
overflow_add-value c =
    let l = c.loop-used in
    let digit = c.requires.digits l.used c.loop-used-test.true in
    let more = plain_more c.args.octets.now c.args.before l.used l.value (omega arith) digit.0 digit.1 l.invariant.run in
    let small = below_room 10 _ _ _ (omega arith) more.room in
    omega (arith, small, c.from.ensures)

pub loop-used-preserved : goal.loop-used-preserved
loop-used-preserved c =
    let l = c.loop-used in
    let digit = c.requires.digits l.used c.loop-used-test.true in
    record {
      few = omega arith;
      run = rw c.from.ensures (plain_more c.args.octets.now c.args.before l.used l.value (omega arith) digit.0 digit.1 l.invariant.run);
    }

pub returns : goal.returns
returns c =
    let l = c.loop-used in
    let few = l.invariant.few in
    let all : l.used ≡ c.args.count = omega (arith, c.loop-used-test.false) in
    subst (λ (n : ℕ). PlainRun c.args.octets.now c.args.before n l.value) all l.invariant.run
