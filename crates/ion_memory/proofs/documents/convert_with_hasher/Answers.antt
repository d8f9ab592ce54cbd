use Rattle.std.proofs.Common.{Some, ap, sym, refl, ◌∙◌}
use Rattle.ion_memory.specs.Names.{encoding_of, failed_of, passed_of, written_of}
use Rattle.ion_docs.specs.laws.Readers.{doc_given, doc_given_next}
use Rattle.ion_memory.proofs.Faults.{converted_fault}
use Rattle.ion_memory.proofs.Memory.{converted_all}
use Rattle.ion_memory.proofs.documents.convert_with_hasher.Goals as goal

pub returns-in-Ok-clause-document : goal.returns-in-Ok-clause-document
returns-in-Ok-clause-document g c =
    converted_all _ (λ device. (device.rest.now, refl)) c.args.input.now c.in_memory-reader.result c.convert_with_hasher-answer.new.reader
    c.in_memory-reader.ensures.tells (record { took = _; written = written_of; passed = passed_of; has_failed = failed_of }) c.new-writer.result
    c.convert_with_hasher-answer.new.writer c.into_inner-octets.result.items (c.new-writer.ensures.took ∙ ap Some c.new.ensures.items)
    (sym c.into_inner-octets.ensures.took) c.args.catalog.now c.args.limits (encoding_of c.args.target) c.in-Ok.answer c.in-Ok.ensures.converted
    c.in-Ok.ensures.same

pub returns-clause-cause : goal.returns-clause-cause
returns-clause-cause g c =
    rw c.fault_of_memory.ensures
    (converted_fault _ (λ device. (device.rest.now, refl)) c.in_memory-reader.ensures.never_fails c.args.input.now c.in_memory-reader.result
    c.convert_with_hasher-answer.new.reader c.in_memory-reader.ensures.tells c.args.limits _ c.args.catalog.now doc_given doc_given_next
    (encoding_of c.args.target) (failed_of c.convert_with_hasher-answer.new.writer) c.in-Err.fault c.in-Err.ensures.cause)
