use Rattle.std.proofs.Common.{refl, ap}
use Rattle.ion_symtab.specs.laws.Took.{Took-nil}
use Rattle.ion_words.specs.Asked.{told}
use Rattle.ion_run.specs.declared.command.Ending.TheVariants.{Accepted, Different}
use Rattle.ion_run.specs.Owed.{code_of, answered, stopped}
use Rattle.ion_run.specs.Names.{Opens}
use Rattle.ion_run.proofs.Owing.{owes_refused}
use Rattle.ion_run.proofs.command.answer.Goals as goal

pub returns-in-Ok-Accepted : goal.returns-in-Ok-Accepted
returns-in-Ok-Accepted g c =
    answered (told c.args.request.now) c.args.request.now.limits Accepted refl (refl, refl, c.requires.reads) refl
    (rw c.in-Ok-Accepted.field-0-is at c.in-Ok-Accepted.ensures.answered) c.in-Ok-Accepted.ensures.passed_on
    (Took-nil g.E.Outlet.took g.E.Outlet.written c.args.err.now)

pub returns-in-Ok-Different : goal.returns-in-Ok-Different
returns-in-Ok-Different g c =
    answered (told c.args.request.now) c.args.request.now.limits Different refl (refl, refl, c.requires.reads) refl
    (rw c.in-Ok-Different.field-0-is at c.in-Ok-Different.ensures.answered) c.in-Ok-Different.ensures.passed_on
    (Took-nil g.E.Outlet.took g.E.Outlet.written c.args.err.now)

pub returns-in-Ok-Refused : goal.returns-in-Ok-Refused
returns-in-Ok-Refused g c =
    owes_refused g.N.Input.Inlet (g.N.Sources.gives c.args.sources.now) (g.N.Sources.refuses c.args.sources.now)
    (Opens (g.N.Sources.opened c.args.sources.now) (g.N.Sources.opened c.with_catalog.new.sources)) _ _ g.O.Outlet g.E.Outlet (told c.args.request.now)
    c.args.request.now.limits c.in-Ok-Refused.whose c.in-Ok-Refused.refusal
    c.args.out.now c.with_catalog.new.out c.args.err.now c.tell_refusal.new.err c.tell_refusal.result (refl, refl, c.requires.reads)
    (rw c.in-Ok-Refused.field-0-is at c.in-Ok-Refused.ensures.answered) c.in-Ok-Refused.ensures.passed_on
    c.tell_refusal.ensures.status c.tell_refusal.ensures.refused c.tell_refusal.ensures.fault

pub returns-in-Err : goal.returns-in-Err
returns-in-Err g c =
    stopped (told c.args.request.now) c.args.request.now.limits c.in-Err.fault refl (refl, refl, c.requires.reads) (ap code_of c.tell_fault.ensures.status)
    c.in-Err.ensures.stopped c.in-Err.ensures.so_far c.tell_fault.ensures.told
