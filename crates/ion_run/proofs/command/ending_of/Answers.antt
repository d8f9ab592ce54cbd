use Rattle.std.proofs.Common.{◌∷◌, [], inr}
use Rattle.std.proofs.lemmas.Result.{IfOk-weaker, IfErr-weaker, on_err_weaker}
use Rattle.ion_docs.specs.Encodings.{encoding_of}
use Rattle.ion_words.specs.Asked.{NamesInputOnce}
use Rattle.ion_run.proofs.Owing.{first_of_names, second_of_names, free_behind, stopped_once, stopped_converting, stopped_comparing, front_checking, front_comparing}
use Rattle.ion_run.proofs.command.ending_of.Goals as goal

pub returns-in_ok-source-in-Check-clause-done : goal.returns-in_ok-source-in-Check-clause-done
returns-in_ok-source-in-Check-clause-done g c =
    rw c.in-Check.is (IfOk-weaker c.checked.result _ _ (λ ending ended.
    (c.in_ok-source-in-Check.field-0, c.checked.new.reader, c.in_ok-source-in-Check.ensures.given, c.checked.ensures.asked, ended.0, ended.1, ended.2))
    c.checked.ensures.ending)

pub returns-in_ok-source-in-Show-clause-done : goal.returns-in_ok-source-in-Show-clause-done
returns-in_ok-source-in-Show-clause-done g c =
    rw c.in-Show.is (IfOk-weaker c.shown.result _ _ (λ ending ended.
    (c.in_ok-source-in-Show.field-0, c.shown.new.reader, c.in_ok-source-in-Show.ensures.given, c.shown.ensures.asked, ended.0, ended.1, ended.2))
    c.shown.ensures.ending)

pub returns-in_ok-source-in-Convert-clause-done : goal.returns-in_ok-source-in-Convert-clause-done
returns-in_ok-source-in-Convert-clause-done g c =
    rw c.in-Convert.is (IfOk-weaker c.converted.result _ _ (λ ending ended. (
      c.in_ok-source-in-Convert.source,
      c.converted.new.reader,
      c.in_ok-source-in-Convert.ensures.given,
      c.converted.ensures.asked,
      ended.0,
      ended.1,
      ended.2,
      ended.3,
    ))
    c.converted.ensures.ending)

pub returns-in_ok-source-in-Check-clause-stopped : goal.returns-in_ok-source-in-Check-clause-stopped
returns-in_ok-source-in-Check-clause-stopped g c =
    rw c.in-Check.is (IfErr-weaker c.checked.result _ _ (stopped_once g.N.Input.Inlet (g.N.Sources.gives c.args.sources.now)
    (g.N.Sources.refuses c.args.sources.now) c.args.request.now.limits _ _ c.in-Check.name.now c.in_ok-source-in-Check.field-0
    c.checked.new.reader c.in_ok-source-in-Check.ensures.given g.O.Outlet c.checked.new.out) c.checked.ensures.cause)

pub returns-in_ok-source-in-Show-clause-stopped : goal.returns-in_ok-source-in-Show-clause-stopped
returns-in_ok-source-in-Show-clause-stopped g c =
    rw c.in-Show.is (IfErr-weaker c.shown.result _ _ (stopped_once g.N.Input.Inlet (g.N.Sources.gives c.args.sources.now)
    (g.N.Sources.refuses c.args.sources.now) c.args.request.now.limits _ _ c.in-Show.name.now c.in_ok-source-in-Show.field-0
    c.shown.new.reader c.in_ok-source-in-Show.ensures.given g.O.Outlet c.shown.new.out) c.shown.ensures.cause)

pub returns-in_ok-source-in-Convert-clause-stopped : goal.returns-in_ok-source-in-Convert-clause-stopped
returns-in_ok-source-in-Convert-clause-stopped g c =
    let first = c.in_ok-source-in-Convert.source in
    let now = c.converted.new.reader in
    let given = c.in_ok-source-in-Convert.ensures.given in
    rw c.in-Convert.is (IfErr-weaker c.converted.result _ _
    (λ fault caused. stopped_converting g.N.Input.Inlet (g.N.Sources.gives c.args.sources.now) (g.N.Sources.refuses c.args.sources.now)
    c.args.request.now.limits (c.in-Convert.name.now ∷ []) _ _ c.in-Convert.name.now (first_of_names c.in-Convert.name.now [])
    first now given (encoding_of c.in-Convert.target) _ (λ s was large. (first, now, given, s, was, large)) g.O.Outlet c.converted.new.out fault caused)
    c.converted.ensures.cause)

pub returns-in_ok-right-in-Compare-clause-stopped :
    goal.returns-in_ok-right-in-Compare-clause-stopped
returns-in_ok-right-in-Compare-clause-stopped g c =
    let left = c.in-Compare.left.now in
    let right = c.in-Compare.right.now in
    let once : NamesInputOnce (left ∷ right ∷ []) = rw c.in-Compare.is at c.requires.input_once in
    let given = c.in_ok-left-in-Compare.ensures.kept.given right c.in_ok-right-in-Compare.right
    (free_behind left right (right ∷ []) once (first_of_names right [])) c.in_ok-right-in-Compare.ensures.given in
    rw c.in-Compare.is (IfErr-weaker c.compared.result _ _ (λ fault caused. stopped_comparing g.N.Input.Inlet (g.N.Sources.gives c.args.sources.now)
    (g.N.Sources.refuses c.args.sources.now) c.args.request.now.limits (left ∷ right ∷ []) _ _ left right (first_of_names left (right ∷ []))
    (second_of_names left right)
    c.in_ok-left-in-Compare.left c.compared.new.left c.in_ok-right-in-Compare.right c.compared.new.right c.in_ok-left-in-Compare.ensures.given given g.O.Outlet
    c.compared.new.out fault caused) c.compared.ensures.cause)

pub returns-in_ok-source-in-Check-clause-so_far : goal.returns-in_ok-source-in-Check-clause-so_far
returns-in_ok-source-in-Check-clause-so_far g c =
    rw c.in-Check.is (on_err_weaker c.checked.result (front_checking g.N.Input.Inlet (g.N.Sources.gives c.args.sources.now) g.O.Outlet c.args.out.now
    c.checked.new.out c.args.catalog.now c.args.request.now.limits
    c.in-Check.name.now c.in_ok-source-in-Check.field-0 c.checked.new.reader c.in_ok-source-in-Check.ensures.given) c.checked.ensures.so_far)

pub returns-in_ok-source-in-Show-clause-so_far : goal.returns-in_ok-source-in-Show-clause-so_far
returns-in_ok-source-in-Show-clause-so_far g c =
    rw c.in-Show.is (on_err_weaker c.shown.result (λ h. inr (c.in_ok-source-in-Show.field-0, c.shown.new.reader, c.in_ok-source-in-Show.ensures.given, h))
    c.shown.ensures.so_far)

pub returns-in_ok-source-in-Convert-clause-so_far : goal.returns-in_ok-source-in-Convert-clause-so_far
returns-in_ok-source-in-Convert-clause-so_far g c =
    rw c.in-Convert.is (on_err_weaker c.converted.result (λ h.
    inr (c.in_ok-source-in-Convert.source, c.converted.new.reader, c.in_ok-source-in-Convert.ensures.given, h)) c.converted.ensures.so_far)

pub returns-in_ok-right-in-Compare-clause-so_far : goal.returns-in_ok-right-in-Compare-clause-so_far
returns-in_ok-right-in-Compare-clause-so_far g c =
    let left = c.in-Compare.left.now in
    let right = c.in-Compare.right.now in
    let once : NamesInputOnce (left ∷ right ∷ []) = rw c.in-Compare.is at c.requires.input_once in
    let given = c.in_ok-left-in-Compare.ensures.kept.given right c.in_ok-right-in-Compare.right
    (free_behind left right (right ∷ []) once (first_of_names right [])) c.in_ok-right-in-Compare.ensures.given in
    rw c.in-Compare.is (on_err_weaker c.compared.result (front_comparing g.N.Input.Inlet (g.N.Sources.gives c.args.sources.now) g.O.Outlet c.args.out.now
    c.compared.new.out c.args.catalog.now c.args.request.now.limits
    left right c.in_ok-left-in-Compare.left c.compared.new.left c.in_ok-right-in-Compare.right c.compared.new.right c.in_ok-left-in-Compare.ensures.given given)
    c.compared.ensures.so_far)
