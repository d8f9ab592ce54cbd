use Rattle.ion_scalar.specs.text.laws.Texts.{decimal_reads}
use Rattle.ion_scalar.proofs.text.decimal_before.Goals as goal

pub returns-clause-again : goal.returns-clause-again
returns-clause-again c = decimal_reads c.args.value c.magnitude.ensures.kept
