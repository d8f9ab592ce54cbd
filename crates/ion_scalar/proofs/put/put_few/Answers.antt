use Rattle.std.proofs.Common.{◌++◌, ap, append_assoc, arith}
use Rattle.ion_scalar.proofs.FewOctets.{few_one, few_three, few_two}
use Rattle.ion_scalar.proofs.put.put_few.Goals as goal

pub returns-then-magnitude-lt128 : goal.returns-then-magnitude-lt128
returns-then-magnitude-lt128 c =
    let few = few_one c.args.power.negative c.args.negative c.args.power.magnitude c.args.magnitude c.requires.power (omega arith) (omega arith) in
    rw (c.push_reserved-then-magnitude-lt128.ensures.items, c.push_reserved.ensures.items, append_assoc, c.sign_bit.ensures, c.sign_bit-sign.ensures)
    (ap (λ w. c.args.out.now.items ++ w) few)

pub returns-then-magnitude-lt32768 : goal.returns-then-magnitude-lt32768
returns-then-magnitude-lt32768 c =
    let few = few_two c.args.power.negative c.args.negative c.args.power.magnitude c.args.magnitude c.requires.power (omega arith) (omega arith) in
    rw (
      c.push_reserved-then-magnitude-lt32768-2.ensures.items,
      c.push_reserved-then-magnitude-lt32768.ensures.items,
      c.push_reserved.ensures.items,
      append_assoc,
      append_assoc,
      c.sign_bit.ensures,
      c.sign_bit-sign.ensures,
    ) (ap (λ w. c.args.out.now.items ++ w) few)

pub returns : goal.returns
returns c =
    let few = few_three c.args.power.negative c.args.negative c.args.power.magnitude c.args.magnitude c.requires.power (omega arith) (omega arith) in
    rw (
      c.push_reserved-4.ensures.items,
      c.push_reserved-3.ensures.items,
      c.push_reserved-2.ensures.items,
      c.push_reserved.ensures.items,
      append_assoc,
      append_assoc,
      append_assoc,
      c.sign_bit.ensures,
      c.sign_bit-sign.ensures,
    ) (ap (λ w. c.args.out.now.items ++ w) few)
