use Rattle.ion_scalar.specs.text.laws.Texts.{int_reads, decimal_reads}
use Rattle.ion_scalar.specs.text.laws.TimestampTexts.{timestamp_reads}
use Rattle.ion_scalar.proofs.laws.text_is_read.Goals as goal

pub returns : goal.returns
returns c = record { int = int_reads; decimal = decimal_reads; timestamp = timestamp_reads }
