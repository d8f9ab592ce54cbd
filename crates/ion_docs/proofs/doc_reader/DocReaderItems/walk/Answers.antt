use Rattle.std.proofs.lemmas.Result.{IfOk-weaker}
use Rattle.ion_docs.proofs.doc_reader.DocReaderItems.walk.Goals as goal

pub returns-clause-leaves : goal.returns-clause-leaves
returns-clause-leaves g c = IfOk-weaker c.walk.result _ _ (λ walked h. record {
  used = h.used;
  uses_all = h.uses_all;
  counts = h.counts;
  progress = h.progress;
  few_pending = h.few_pending;
  onward = h.onward;
  not_failed = h.not_failed;
  awaited = h.awaited;
}) c.walk.ensures.leaves
