use Rattle.std.proofs.Common.{[]}
use Rattle.ion_docs.specs.Names.{documents}
use Rattle.ion_docs.proofs.Tables.{one_answer, some_answer}
use Rattle.ion_docs.proofs.laws.one_catalog.Goals as goal

pub returns : goal.returns
returns c = record {
  some = some_answer;
  one = λ l. one_answer (documents [] l);
}
