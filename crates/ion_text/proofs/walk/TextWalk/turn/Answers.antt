use Rattle.std.proofs.Common.{◌≡◌, [], ap, sym, subst, ◌∙◌}
use Rattle.ion_text.specs.Names.{Does, Stage, TextWalk, calm, on_long, on_long_name, on_pending, reading_of, setting_of, spot_of, told, turn, turn_now}
use Rattle.ion_tokens.specs.Bodies.{content}
use Rattle.ion_text.specs.machine.Views.{token_in}
use Rattle.ion_text.proofs.Ended.{bare_does, holds_calm}
use Rattle.ion_text.proofs.Taking.{does_alone}
use Rattle.ion_text.proofs.walk.TextWalk.turn.Goals as goal

pub returns-in-Pending-clause-does : goal.returns-in-Pending-clause-does
returns-in-Pending-clause-does g c = λ fs ss h.
    let r = c.args.self.now in
    let q = reading_of r fs ss in
    let e = sym c.take_stage.ensures.stage ∙ c.in-Pending.is in
    let k = c.take_stage.ensures.calm in
    subst (λ (n : Stage). Does g.V.Visitor.takes (told fs ss) (turn_now (setting_of r) q (token_in c.args.token) n) c.on_pending.result c.on_pending.new.self
    c.args.visitor.now c.on_pending.new.visitor) (sym e)
    (subst (λ (w : TextWalk). Does g.V.Visitor.takes (told fs ss) (on_pending w.start w.context fs ss c.in-Pending.held (content c.args.token.body))
    c.on_pending.result c.on_pending.new.self c.args.visitor.now c.on_pending.new.visitor) k
    (c.on_pending.ensures.does fs ss (holds_calm r c.take_stage.new.self k fs ss h)))

pub returns-in-Long-clause-does : goal.returns-in-Long-clause-does
returns-in-Long-clause-does g c = λ fs ss h.
    let r = c.args.self.now in
    let q = reading_of r fs ss in
    let e = sym c.take_stage.ensures.stage ∙ c.in-Long.is in
    let k = c.take_stage.ensures.calm in
    subst (λ (n : Stage). Does g.V.Visitor.takes (told fs ss) (turn_now (setting_of r) q (token_in c.args.token) n) c.on_long.result c.on_long.new.self
    c.args.visitor.now c.args.visitor.now) (sym e)
    (subst (λ (w : TextWalk). Does g.V.Visitor.takes (told fs ss) (on_long (spot_of w c.args.token.end) fs ss c.in-Long.text (content c.args.token.body))
    c.on_long.result c.on_long.new.self c.args.visitor.now c.args.visitor.now) k
    (does_alone g.V.Visitor.takes (told fs ss) _ c.on_long.result c.on_long.new.self c.args.visitor.now
    (c.on_long.ensures.does fs ss (holds_calm r c.take_stage.new.self k fs ss h))))

pub returns-in-LongName-clause-does : goal.returns-in-LongName-clause-does
returns-in-LongName-clause-does g c =
    let r = c.args.self.now in
    let e = sym c.take_stage.ensures.stage ∙ c.in-LongName.is in
    let k = c.take_stage.ensures.calm in
    bare_does (λ fs ss. Does g.V.Visitor.takes (told fs ss) (turn r.catalog.now r.limits (reading_of r fs ss) (token_in c.args.token)) c.on_long_name.result
    c.on_long_name.new.self c.args.visitor.now c.args.visitor.now) r c.take_stage.new.self k (λ i. let n : Stage.Name ≡ Stage.Ready = ap calm (sym e) ∙ i in cc)
    (λ fs h.
    subst (λ (n : Stage). Does g.V.Visitor.takes (told fs []) (turn_now (setting_of r) (reading_of r fs []) (token_in c.args.token) n)
    c.on_long_name.result c.on_long_name.new.self c.args.visitor.now c.args.visitor.now) (sym e)
    (subst (λ (w : TextWalk). Does g.V.Visitor.takes (told fs [])
    (on_long_name w.start w.context fs c.in-LongName.text (content c.args.token.body)) c.on_long_name.result c.on_long_name.new.self
    c.args.visitor.now c.args.visitor.now) k
    (does_alone g.V.Visitor.takes (told fs []) _ c.on_long_name.result c.on_long_name.new.self c.args.visitor.now (c.on_long_name.ensures.does fs h))))
