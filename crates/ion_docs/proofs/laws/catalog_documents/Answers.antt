use Rattle.std.proofs.Common.{[]}
use Rattle.ion_docs.specs.Names.{documents}
use Rattle.ion_docs.specs.laws.Documents.{promised}
use Rattle.ion_docs.proofs.Tables.{document_of_tables, loaded_document}
use Rattle.ion_docs.proofs.laws.catalog_documents.Goals as goal

pub returns : goal.returns
returns c = λ l octets tables. (
  loaded_document (documents [] l) octets tables,
  document_of_tables (documents [] l) octets tables (λ s. ((promised [] l octets).exact s).1),
)
