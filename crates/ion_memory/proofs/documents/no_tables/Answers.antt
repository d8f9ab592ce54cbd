use Rattle.std.proofs.Common.{[]}
use Rattle.ion_memory.proofs.Nothing.{nothing}
use Rattle.ion_memory.proofs.documents.no_tables.Goals as goal

pub returns : goal.returns
returns c = rw c.new.ensures ((c.catalog_documents.ensures c.args.limits [] []).1 (nothing c.args.limits))
