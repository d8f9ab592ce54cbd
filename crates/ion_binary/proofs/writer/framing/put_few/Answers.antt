use Rattle.std.proofs.Common.{◌++◌, ap, ◌∙◌, arith, refl}
use Rattle.ion_binary.proofs.FewDigits.{five_pushed, four_pushed, framed_four, framed_one, framed_three, framed_two, three_pushed, two_pushed}
use Rattle.ion_binary.proofs.writer.framing.put_few.Goals as goal

pub returns-then-magnitude-lt256 : goal.returns-then-magnitude-lt256
returns-then-magnitude-lt256 c =
    two_pushed _ _ refl
    c.push_reserved.ensures.items c.push_reserved-then-magnitude-lt256.ensures.items
    ∙ ap (λ w. c.args.out.now.items ++ w) (framed_one c.args.code c.args.magnitude (omega arith) (omega arith))

pub returns-then-magnitude-lt65536 : goal.returns-then-magnitude-lt65536
returns-then-magnitude-lt65536 c =
    three_pushed _ _ _ refl
    c.push_reserved-then-magnitude-lt65536.ensures.items c.push_reserved-then-magnitude-lt65536-2.ensures.items c.push_reserved-then-magnitude-lt65536-3.ensures.items
    ∙ ap (λ w. c.args.out.now.items ++ w) (framed_two c.args.code c.args.magnitude (omega arith) (omega arith))

pub returns-then-magnitude-lt16777216 : goal.returns-then-magnitude-lt16777216
returns-then-magnitude-lt16777216 c =
    four_pushed _ _ _ _ refl
    c.push_reserved-then-magnitude-lt16777216.ensures.items c.push_reserved-then-magnitude-lt16777216-2.ensures.items c.push_reserved-then-magnitude-lt16777216-3.ensures.items c.push_reserved-then-magnitude-lt16777216-4.ensures.items
    ∙ ap (λ w. c.args.out.now.items ++ w) (framed_three c.args.code c.args.magnitude (omega arith) (omega arith))

pub returns : goal.returns
returns c =
    five_pushed _ _ _ _ _ refl
    c.push_reserved-2.ensures.items c.push_reserved-3.ensures.items c.push_reserved-4.ensures.items c.push_reserved-5.ensures.items c.push_reserved-6.ensures.items
    ∙ ap (λ w. c.args.out.now.items ++ w) (framed_four c.args.code c.args.magnitude (omega arith) (omega arith))
