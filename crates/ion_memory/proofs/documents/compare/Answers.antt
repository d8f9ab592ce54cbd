use Rattle.std.proofs.Common.{inl, inr, refl}
use Rattle.std.proofs.lemmas.Result.{IfOk-weaker, IfErr-weaker}
use Rattle.ion_memory.specs.Names.{documents}
use Rattle.ion_docs.proofs.Told.{verdict_told}
use Rattle.ion_memory.proofs.Faults.{read_fault}
use Rattle.ion_memory.proofs.documents.compare.Goals as goal

pub returns-clause-verdict : goal.returns-clause-verdict
returns-clause-verdict c =
    let F = documents c.args.catalog.now c.args.limits in
    IfOk-weaker c.compare.result _ _ (λ verdict h. verdict_told _ _ (λ device. (device.rest.now, refl)) (λ device. (device.rest.now, refl)) F F
    c.in_memory-left.result c.compare.new.left c.in_memory-right.result c.compare.new.right verdict h c.args.left.now c.args.right.now
    c.in_memory-left.ensures.tells c.in_memory-right.ensures.tells) c.compare.ensures.verdict

pub returns-clause-cause : goal.returns-clause-cause
returns-clause-cause c = IfErr-weaker c.compare.result _ _ (λ fault h. elim h [
  | inl k ↦ inl (read_fault _ (λ device. (device.rest.now, refl)) c.in_memory-left.ensures.never_fails c.args.left.now c.in_memory-left.result
      c.compare.new.left c.in_memory-left.ensures.tells c.args.limits ⊥ fault k)
  | inr k ↦ inr (read_fault _ (λ device. (device.rest.now, refl)) c.in_memory-right.ensures.never_fails c.args.right.now c.in_memory-right.result
      c.compare.new.right c.in_memory-right.ensures.tells c.args.limits ⊥ fault k)
]) c.compare.ensures.cause
