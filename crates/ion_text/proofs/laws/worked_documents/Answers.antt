use Rattle.ion_text.specs.laws.reading.Rows.{are_documents}
use Rattle.ion_text.proofs.laws.worked_documents.Goals as goal

pub returns : goal.returns
returns c = are_documents
