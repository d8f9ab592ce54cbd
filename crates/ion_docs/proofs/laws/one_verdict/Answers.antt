use Rattle.ion_docs.specs.Names.{documents}
use Rattle.ion_docs.specs.laws.Documents.{one_document}
use Rattle.ion_docs.proofs.Verdicts.{verdicts_agree}
use Rattle.ion_docs.proofs.laws.one_verdict.Goals as goal

pub returns : goal.returns
returns c = λ g k. verdicts_agree (documents g k) (documents g k) c.paths.ensures.one (one_document g k) (one_document g k)
