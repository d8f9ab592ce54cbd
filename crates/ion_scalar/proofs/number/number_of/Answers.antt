use Rattle.ion_scalar.specs.text.laws.OneNumber.{one_answer}
use Rattle.ion_scalar.proofs.number.number_of.Goals as goal

pub returns-clause-only : goal.returns-clause-only
returns-clause-only c = λ answer reads. one_answer c.args.token.now c.answer_of.result answer c.answer_of.ensures reads
