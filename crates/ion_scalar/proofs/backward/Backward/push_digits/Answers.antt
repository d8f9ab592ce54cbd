use Rattle.std.proofs.Common.{◌≡◌, ◌-◌, ◌%◌, drop, length-set, ◌∙◌, arith}
use Rattle.ion_scalar.proofs.Places.{places, put_front, digit_step, few_digits}
use Rattle.ion_scalar.proofs.backward.Backward.push_digits.Goals as goal

pub loop-rest-preserved : goal.loop-rest-preserved
loop-rest-preserved c =
    let l = c.loop-rest in
    let base = c.args.base in
    let octets = l.self-inside.octets in
    let p = places base l.rest l.start (omega (arith, c.requires.base.0)) c.loop-rest-test.true l.invariant.room in
    record {
      within = omega arith;
      size = length-set octets (l.start - 1) (l.rest % base) ∙ l.invariant.size;
      room = p.1;
      digits = rw (put_front octets l.start (l.rest % base) p.0 (omega arith))
          (digit_step base l.rest (drop l.start octets) _ c.requires.base.0 c.loop-rest-test.true l.invariant.digits);
    }

pub returns-clause-digits : goal.returns-clause-digits
returns-clause-digits c =
    let l = c.loop-rest in
    let done : l.rest ≡ 0 = omega arith in
    rw done at l.invariant.digits

pub returns-clause-few : goal.returns-clause-few
returns-clause-few c = λ k small. rw (returns-clause-digits c) (few_digits c.args.base c.args.value k c.args.self.now c.requires.base.0 small)
