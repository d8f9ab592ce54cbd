use Rattle.std.proofs.Common.{[], Result, Ok, Err}
use Rattle.std.specs.Result.{OnOk}
use Rattle.ion_text.specs.Names.{Refusal, place, reading_of, scanned}
use Rattle.ion_text.proofs.WhileWaiting.{led_by_waiting, used_by_waiting}
use Rattle.ion_text.proofs.walk.TextWalk.read_while_waiting.Goals as goal

then_so : {P Q : Type 0} → (P → Q) → (x : Result (Unit {0}) Refusal) → OnOk x P → OnOk x Q
then_so f (Ok done) p = f p
then_so f (Err refusal) p = tt

pub returns-clause-led : goal.returns-clause-led
returns-clause-led c =
    let r = c.args.self.now in
    then_so (λ ran fs ss. led_by_waiting r.catalog.now r.limits (reading_of r fs ss) c.args.octets.now (scanned r.scanner) (scanned c.go_on.new.self)
    (c.requires.waiting_run fs ss) c.requires.over ran)
    c.go_on.result (c.go_on.ensures.ran c.requires.fine)

pub returns-clause-holds : goal.returns-clause-holds
returns-clause-holds c = λ fs ss h. h

pub returns-clause-used : goal.returns-clause-used
returns-clause-used c =
    let r = c.args.self.now in
    then_so (λ ran. used_by_waiting c.args.octets.now (scanned r.scanner) (scanned c.go_on.new.self) (place (reading_of r [] []))
    (ran (place (reading_of r [] []))))
    c.go_on.result (c.go_on.ensures.ran c.requires.fine)
