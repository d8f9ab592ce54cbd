use Rattle.std.proofs.Common.{◌≡◌, ◌∙◌, ap}
use Rattle.std.proofs.lemmas.Result.{IfOk-weaker}
use Rattle.ion_tokens.specs.Names.{IsSteady, StaysSteady, acts}
use Rattle.ion_tokens.specs.machine.Machines.{known, outcome_in}
use Rattle.ion_tokens.proofs.bounds.Steady.{take_up_steady}
use Rattle.ion_tokens.proofs.machine.Machine.take_up.Goals as goal

pub returns-clause-steady : goal.returns-clause-steady
returns-clause-steady c =
    let s = known c.args.self.now in
    let next = c.act.new.self in
    IfOk-weaker c.act.result (λ taken. outcome_in taken next ≡ acts c.args.place s c.args.octet c.next.result)
    (λ taken. IsSteady s c.args.self.now.looked → StaysSteady (outcome_in taken next) next.looked)
    (λ taken does. take_up_steady c.args.place s c.args.octet c.args.self.now.looked next.looked (outcome_in taken next) c.requires
    (c.act.ensures.looked ∙ c.saturating_add-self.ensures) (does ∙ ap (λ a. acts c.args.place s c.args.octet a) c.next.ensures))
    c.act.ensures.does
