use Rattle.std.proofs.Common.{refl}
use Rattle.ion_memory.proofs.Faults.{read_fault}
use Rattle.ion_memory.proofs.Memory.{laid_all}
use Rattle.ion_memory.proofs.documents.lay_out.Goals as goal

pub returns-in-Ok-clause-layout : goal.returns-in-Ok-clause-layout
returns-in-Ok-clause-layout g c =
    laid_all _ (λ device. (device.rest.now, refl)) c.args.input.now c.in_memory-reader.result c.lay_out.new.reader c.in_memory-reader.ensures.tells
    c.args.catalog.now c.args.limits c.in-Ok.out.answer c.in-Ok.out.layout.items c.in-Ok.ensures.laid

pub returns-clause-cause : goal.returns-clause-cause
returns-clause-cause g c =
    read_fault _ (λ device. (device.rest.now, refl)) c.in_memory-reader.ensures.never_fails c.args.input.now c.in_memory-reader.result
    c.lay_out.new.reader c.in_memory-reader.ensures.tells c.args.limits _ c.in-Err.fault c.in-Err.ensures.cause
