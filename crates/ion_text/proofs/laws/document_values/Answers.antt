use Rattle.ion_text.specs.laws.reading.ValuesKept.{document_kept, document_values}
use Rattle.ion_text.proofs.laws.document_values.Goals as goal

pub returns : goal.returns
returns c = record {
  kept = λ g l u s texts document. document_kept g l texts u s document;
  no_tables = λ g l u s document. document_values g l u s document;
}
