use Rattle.ion_binary.specs.laws.reading.HeaderRows.{header_rows}
use Rattle.ion_binary.specs.laws.reading.PlainRows.{null_rows, truth_rows}
use Rattle.ion_binary.proofs.laws.headers.Goals as goal

pub returns : goal.returns
returns c = record { sized = header_rows; nulls = null_rows; truths = truth_rows }
