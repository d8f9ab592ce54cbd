use Rattle.std.proofs.Common.{refl}
use Rattle.ion_memory.specs.Outcomes.{no_catalog, faulted}
use Rattle.ion_memory.proofs.setting.set_up.Goals as goal

pub returns-in-Ok-Err-clause-none : goal.returns-in-Ok-Err-clause-none
returns-in-Ok-Err-clause-none c =
    let refused = rw c.in-Ok-Err.field-0-is at c.in-Ok-Err.ensures.loaded in
    no_catalog c.in-Ok-Err.refusal (c.in-Some.limits, c.in-Some.ensures.some, refused) refl

pub returns-in-Err-clause-none : goal.returns-in-Err-clause-none
returns-in-Err-clause-none c = faulted c.in-Err.fault c.in-Some.limits c.in-Some.ensures.some c.in-Err.ensures.cause refl
