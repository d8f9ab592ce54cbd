use Rattle.ion_binary.specs.laws.reading.DocumentKept.{document_kept}
use Rattle.ion_binary.specs.laws.reading.Promises.{pieces_values}
use Rattle.ion_binary.proofs.laws.document_values.Goals as goal

pub returns : goal.returns
returns c = record {
  kept = λ g l u s texts octets document. document_kept g l texts u s octets document;
  no_tables = λ g l u s document. pieces_values g l u s document.0 document.1;
}
