use Rattle.std.proofs.Common.{None, Some, ap, sym, refl, ◌∙◌}
use Rattle.ion_memory.specs.Names.{failed_of, passed_of, written_of}
use Rattle.ion_memory.proofs.Faults.{shown_fault}
use Rattle.ion_memory.proofs.Memory.{shown_all}
use Rattle.ion_memory.proofs.documents.show.Goals as goal

pub returns-in-Ok-clause-lines : goal.returns-in-Ok-clause-lines
returns-in-Ok-clause-lines c =
    shown_all _ (λ device. (device.rest.now, refl)) c.args.input.now c.in_memory-reader.result c.show.new.reader c.in_memory-reader.ensures.tells
    (record { took = _; written = written_of; passed = passed_of; has_failed = failed_of }) c.new-writer.result c.show.new.writer
    c.into_inner-octets.result.items (c.new-writer.ensures.took ∙ ap Some c.new.ensures.items) (sym c.into_inner-octets.ensures.took) c.args.catalog.now
    c.args.limits c.in-Ok.answer c.in-Ok.ensures.shown

pub returns-clause-cause : goal.returns-clause-cause
returns-clause-cause c =
    rw c.fault_of_memory.ensures
    (shown_fault _ (λ device. (device.rest.now, refl)) c.in_memory-reader.ensures.never_fails c.args.input.now c.in_memory-reader.result c.show.new.reader
    c.in_memory-reader.ensures.tells c.args.limits (record { took = λ device. None; written = written_of; passed = passed_of; has_failed = failed_of }) c.show.new.writer c.in-Err.fault c.in-Err.ensures.cause)
