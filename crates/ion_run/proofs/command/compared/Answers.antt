use Rattle.std.proofs.Common.{refl, inr}
use Rattle.ion_symtab.specs.Took.{Took, TookFront}
use Rattle.ion_symtab.specs.laws.Took.{Took-nil}
use Rattle.ion_streams.specs.declared.comparison.Verdict.TheVariants.{Equivalent, Different, Refused}
use Rattle.ion_run.specs.Lines.{equivalent_line, different_line}
use Rattle.ion_run.proofs.Writes.{on_err}
use Rattle.ion_run.proofs.command.compared.Goals as goal

pub returns-in_ok-tell-in-Equivalent-clause-ending :
    goal.returns-in_ok-tell-in-Equivalent-clause-ending
returns-in_ok-tell-in-Equivalent-clause-ending g c =
    let told : Took g.O.Outlet.took g.O.Outlet.written c.args.out.now c.tell.new.out (equivalent_line c.in-Equivalent.values) =
    rw (c.as_str.ensures.value, c.in_ok-equivalent_line-in-Equivalent.ensures) at c.in_ok-tell-in-Equivalent.ensures.told in
    (Equivalent c.in-Equivalent.values, rw c.in-Equivalent.is at c.in_ok-values.ensures.verdict, (refl, told, c.in_ok-tell-in-Equivalent.ensures.passed_on))

pub returns-in_ok-tell-in-Different-clause-ending :
    goal.returns-in_ok-tell-in-Different-clause-ending
returns-in_ok-tell-in-Different-clause-ending g c =
    let told : Took g.O.Outlet.took g.O.Outlet.written c.args.out.now c.tell-in-Different.new.out (different_line c.in-Different.index c.in-Different.path) =
    rw (c.as_str-in-Different.ensures.value, c.in_ok-different_line-in-Different.ensures.line) at c.in_ok-tell-in-Different.ensures.told in (
      Different c.in-Different.index c.in-Different.path,
      rw c.in-Different.is at c.in_ok-values.ensures.verdict,
      (refl, told, c.in_ok-tell-in-Different.ensures.passed_on),
    )

pub returns-in-Refused-clause-ending : goal.returns-in-Refused-clause-ending
returns-in-Refused-clause-ending g c = (
  Refused c.in-Refused.side c.in-Refused.refusal,
  rw c.in-Refused.is at c.in_ok-values.ensures.verdict,
  (refl, Took-nil g.O.Outlet.took g.O.Outlet.written c.args.out.now),
)

pub returns-in_err-tell-in-Equivalent-clause-so_far :
    goal.returns-in_err-tell-in-Equivalent-clause-so_far
returns-in_err-tell-in-Equivalent-clause-so_far g c =
    let told : TookFront g.O.Outlet.took g.O.Outlet.written c.args.out.now c.tell.new.out (equivalent_line c.in-Equivalent.values) =
    rw (c.as_str.ensures.value, c.in_ok-equivalent_line-in-Equivalent.ensures) at c.in_err-tell-in-Equivalent.ensures.so_far in
    on_err c.from_residual-in_err-tell-in-Equivalent.result
    (inr (Equivalent c.in-Equivalent.values, rw c.in-Equivalent.is at c.in_ok-values.ensures.verdict, told))

pub returns-in_err-tell-in-Different-clause-so_far :
    goal.returns-in_err-tell-in-Different-clause-so_far
returns-in_err-tell-in-Different-clause-so_far g c =
    let told : TookFront g.O.Outlet.took g.O.Outlet.written c.args.out.now c.tell-in-Different.new.out
    (different_line c.in-Different.index c.in-Different.path) =
    rw (c.as_str-in-Different.ensures.value, c.in_ok-different_line-in-Different.ensures.line) at c.in_err-tell-in-Different.ensures.so_far in
    on_err c.from_residual-in_err-tell-in-Different.result (inr
    (Different c.in-Different.index c.in-Different.path, rw c.in-Different.is at c.in_ok-values.ensures.verdict, told))
