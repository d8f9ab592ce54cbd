use Rattle.std.proofs.Common.{sym, subst, ◌∙◌}
use Rattle.ion_scalar.specs.Names.{ReadsDecimalBody}
use Rattle.ion_scalar.specs.binary.laws.Decimal.{decimal_answers, decimal_only}
use Rattle.ion_scalar.proofs.decimal_body.decimal_of.Goals as goal

pub returns-clause-answer : goal.returns-clause-answer
returns-clause-answer c = subst (ReadsDecimalBody c.args.octets.now) (sym c.read_decimal.ensures) (decimal_answers c.args.octets.now)

pub returns-clause-only : goal.returns-clause-only
returns-clause-only c = λ answer reads. c.read_decimal.ensures ∙ decimal_only c.args.octets.now answer reads
