use Rattle.std.proofs.Common.{[], append-nil}
use Rattle.std.proofs.lemmas.Result.{on_ok_weaker}
use Rattle.ion_docs.specs.Names.{text_of}
use Rattle.ion_streams.proofs.Steps.{on_err}
use Rattle.ion_docs.proofs.writers.TextOutEncoder.finish.Goals as goal

pub returns-clause-wrote : goal.returns-clause-wrote
returns-clause-wrote g c = on_ok_weaker c.flushed.result (λ passed s count. ([], append-nil (text_of s), c.flushed.ensures.kept)) c.flushed.ensures.passed_on

pub returns-clause-front : goal.returns-clause-front
returns-clause-front g c = on_err c.flushed.result _ (λ s count. ([], append-nil (text_of s), record { count = 0; front = c.flushed.ensures.kept }))
