use Rattle.std.proofs.Common.{rules}
use Rattle.std.proofs.lemmas.Result.{IfErr-weaker}
use Rattle.ion_run.proofs.Writes.{Reports-written, when_ok}
use Rattle.ion_run.proofs.command.report.Goals as goal

pub returns-then-is_ok : goal.returns-then-is_ok
returns-then-is_ok g c =
    let taken = when_ok c.write_whole.result _ (search rules) c.write_whole.ensures.whole in
    rw (← c.as_bytes.ensures.value) (Reports-written g.E.Outlet c.args.err.now c.write_whole.new.writer c.flushed.new.writer _ c.flushed.result taken
    c.flushed.ensures.kept c.flushed.ensures.passed_on
    (IfErr-weaker c.flushed.result _ _ (λ fault caused. caused.1) c.flushed.ensures.cause))
