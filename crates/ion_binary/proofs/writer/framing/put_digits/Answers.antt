use Rattle.std.proofs.Common.{◌++◌, ap, ◌∙◌, arith}
use Rattle.ion_binary.proofs.FewDigits.{three_pushed, two_pushed, var_three, var_two}
use Rattle.ion_binary.proofs.writer.framing.put_digits.Goals as goal

pub returns-then-number-lt16384-clause-ok : goal.returns-then-number-lt16384-clause-ok
returns-then-number-lt16384-clause-ok c =
    two_pushed _ _ c.in_ok-reserve.ensures.items
    c.push_reserved-then-number-lt16384.ensures.items c.push_reserved-then-number-lt16384-2.ensures.items
    ∙ ap (λ w. c.args.out.now.items ++ w) (var_two c.args.number (omega arith) (omega arith))

pub returns-clause-ok : goal.returns-clause-ok
returns-clause-ok c =
    three_pushed _ _ _ c.in_ok-reserve.ensures.items
    c.push_reserved-2.ensures.items c.push_reserved-3.ensures.items c.push_reserved-4.ensures.items
    ∙ ap (λ w. c.args.out.now.items ++ w) (var_three c.args.number (omega arith) (omega arith))
