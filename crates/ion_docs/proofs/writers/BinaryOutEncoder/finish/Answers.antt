use Rattle.std.proofs.Common.{Bool, sym, subst}
use Rattle.std.proofs.lemmas.Result.{on_err_weaker, on_ok_weaker}
use Rattle.ion_docs.specs.Names.{Took, TookFront, behind, nothing_yet, opening}
use Rattle.ion_docs.specs.laws.Encodings.{binary_ends}
use Rattle.ion_docs.proofs.HandedOver.{begun_some}
use Rattle.ion_docs.proofs.writers.BinaryOutEncoder.finish.Goals as goal

pub returns-clause-wrote : goal.returns-clause-wrote
returns-clause-wrote g c = on_ok_weaker c.finish_document.result (λ took s count. (
  opening (behind nothing_yet s).begun,
  binary_ends s,
  subst (λ (b : Bool). Took g.W.Outlet.took g.W.Outlet.written c.args.out.now c.finish_document.new.out (opening b)) (sym (begun_some s c.args.values count))
      took,
)) c.finish_document.ensures.ok

pub returns-clause-front : goal.returns-clause-front
returns-clause-front g c = on_err_weaker c.finish_document.result (λ took s count. (
  opening (behind nothing_yet s).begun,
  binary_ends s,
  subst (λ (b : Bool). TookFront g.W.Outlet.took g.W.Outlet.written c.args.out.now c.finish_document.new.out (opening b))
      (sym (begun_some s c.args.values count)) took,
)) c.finish_document.ensures.front
