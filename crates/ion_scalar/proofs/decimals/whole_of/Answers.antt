use Rattle.std.proofs.Common.{arith}
use Rattle.ion_scalar.specs.text.laws.DecimalCuts.{one_whole, no_zero_first}
use Rattle.ion_scalar.proofs.decimals.whole_of.Goals as goal

pub returns-clause-only : goal.returns-clause-only
returns-clause-only c =
    let d = c.digits_at-digits.ensures in
    λ w t cut h n. one_whole c.args.body.now w t c.digits_at-digits.result.used (d.digits (omega arith)) (d.longest (omega arith)) cut h n

pub returns-then-body-eq48-clause-none : goal.returns-then-body-eq48-clause-none
returns-then-body-eq48-clause-none c =
    let d = c.digits_at-digits.ensures in
    λ w t cut h n. no_zero_first c.args.body.now w c.digits_at-digits.result.used c.if-digits-gt1.true d.within c.if-body-eq48.true
    (one_whole c.args.body.now w t c.digits_at-digits.result.used (d.digits (omega arith)) (d.longest (omega arith)) cut h n) h
