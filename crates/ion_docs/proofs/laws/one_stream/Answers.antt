use Rattle.ion_docs.specs.laws.Documents.{one_document}
use Rattle.ion_docs.proofs.laws.one_stream.Goals as goal

pub returns : goal.returns
returns c = one_document
