use Rattle.ion_symtab.specs.laws.Took.{Front-all}
use Rattle.ion_run.proofs.Writes.{on_err}
use Rattle.ion_run.proofs.command.tell.Goals as goal

pub returns-clause-so_far : goal.returns-clause-so_far
returns-clause-so_far g c =
    rw (← c.as_bytes.ensures.value) (on_err c.flushed.result
    (Front-all g.O.Outlet.took g.O.Outlet.written c.args.out.now c.write_whole.new.writer c.flushed.new.writer _ c.in_ok-write_whole.ensures.whole
    c.flushed.ensures.kept))
