use Rattle.ion_tokens.specs.laws.Numerals.{number_without_slash}
use Rattle.ion_tokens.proofs.body.body_of.Goals as goal

pub returns-in_ok-number_of-in-Number-clause-passes : goal.returns-in_ok-number_of-in-Number-clause-passes
returns-in_ok-number_of-in-Number-clause-passes c =
    rw c.in-Number.is (rw c.as_slice-in-Number.ensures.value at (number_without_slash c.as_slice-in-Number.result.now c.in_ok-number_of-in-Number.field-0
    c.in_ok-number_of-in-Number.ensures.answer))

pub returns-in-KindName-clause-lends : goal.returns-in-KindName-clause-lends
returns-in-KindName-clause-lends c = c.null_body.ensures.lends c.args.lent.now
