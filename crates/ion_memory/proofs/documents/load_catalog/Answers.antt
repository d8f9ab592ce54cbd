use Rattle.std.proofs.Common.{[], refl}
use Rattle.std.proofs.lemmas.Result.{IfOk-weaker, IfErr-weaker}
use Rattle.ion_memory.specs.Names.{documents}
use Rattle.ion_memory.proofs.Faults.{read_fault}
use Rattle.ion_memory.proofs.Memory.{loaded_all}
use Rattle.ion_memory.proofs.documents.load_catalog.Goals as goal

pub returns-clause-loaded : goal.returns-clause-loaded
returns-clause-loaded c = IfOk-weaker c.load_catalog.result _ _ (λ answer h. loaded_all _ (λ device. (device.rest.now, refl)) c.args.octets.now
    c.in_memory-reader.result c.load_catalog.new.reader c.in_memory-reader.ensures.tells (documents [] c.args.limits) answer h) c.load_catalog.ensures.loaded

pub returns-clause-cause : goal.returns-clause-cause
returns-clause-cause c = IfErr-weaker c.load_catalog.result _ _ (λ fault h. read_fault _ (λ device. (device.rest.now, refl))
    c.in_memory-reader.ensures.never_fails c.args.octets.now c.in_memory-reader.result c.load_catalog.new.reader c.in_memory-reader.ensures.tells c.args.limits
    ⊥ fault h) c.load_catalog.ensures.cause
