use Rattle.std.proofs.Common.{sym, ap, ◌∙◌}
use Rattle.ion_text.specs.Names.{ended, open_brackets, setting_of, spot_of}
use Rattle.ion_text.proofs.Ended.{behind_in, inner_ends, top_ends}
use Rattle.ion_text.proofs.walk.TextWalk.ended.Goals as goal

pub returns-then-not-is_inside-clause-does : goal.returns-then-not-is_inside-clause-does
returns-then-not-is_inside-clause-does c =
    let r = c.args.self.now in
    top_ends (λ fs v. ended (setting_of r) (spot_of r c.args.end) fs v) (open_brackets r) r.filter c.give.result c.give.new.self
    (sym c.is_inside.ensures ∙ c.if-not-is_inside.true) c.give.ensures.does

pub returns-clause-does : goal.returns-clause-does
returns-clause-does c =
    let r = c.args.self.now in
    inner_ends r c.args.end c.set_stage.new.self (sym c.is_inside.ensures ∙ c.if-not-is_inside.false)
    (c.set_stage.ensures ∙ ap (λ s. behind_in r s) c.behind_value-stage.ensures)
