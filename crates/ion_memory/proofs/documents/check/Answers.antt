use Rattle.std.proofs.Common.{refl}
use Rattle.std.proofs.lemmas.Result.{IfOk-weaker, IfErr-weaker}
use Rattle.ion_docs.proofs.Told.{check_told}
use Rattle.ion_memory.proofs.Faults.{read_fault}
use Rattle.ion_memory.proofs.documents.check.Goals as goal

pub returns-clause-answer : goal.returns-clause-answer
returns-clause-answer c = IfOk-weaker c.check.result _ _ (λ answer h. check_told _ (λ device. (device.rest.now, refl)) c.args.catalog.now c.args.limits
    c.in_memory-reader.result c.check.new.reader c.args.input.now c.in_memory-reader.ensures.tells answer h) c.check.ensures.verdict

pub returns-clause-cause : goal.returns-clause-cause
returns-clause-cause c = IfErr-weaker c.check.result _ _ (λ fault h. read_fault _ (λ device. (device.rest.now, refl)) c.in_memory-reader.ensures.never_fails
    c.args.input.now c.in_memory-reader.result c.check.new.reader c.in_memory-reader.ensures.tells c.args.limits ⊥ fault h) c.check.ensures.cause
