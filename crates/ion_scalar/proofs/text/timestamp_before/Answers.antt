use Rattle.ion_scalar.specs.text.laws.TimestampTexts.{timestamp_reads}
use Rattle.ion_scalar.proofs.text.timestamp_before.Goals as goal

pub returns-clause-again : goal.returns-clause-again
returns-clause-again c = timestamp_reads c.args.value c.local.ensures.kept
