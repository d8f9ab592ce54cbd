use Rattle.std.proofs.Common.{ap, subst, sym}
use Rattle.ion_model.specs.declared.value.Payload.TheVariants as payloads
use Rattle.ion_model.specs.declared.value.Payload.TheViews as views
use Rattle.ion_tokens.specs.Bodies.{content}
use Rattle.ion_tokens.specs.declared.token.Body.{Body}
use Rattle.ion_tokens.specs.declared.token.TextKind.{TextKind}
use Rattle.ion_text.specs.Names.{Does, layer_events, layer_kind, on_ready, setting_of, spot_of, told}
use Rattle.ion_text.proofs.walk.TextWalk.on_let_go.Goals as goal

pub returns-in-Short-clause-does : goal.returns-in-Short-clause-does
returns-in-Short-clause-does g c = λ fs ss h.
    let r = c.args.self.now in
    subst (λ (k : TextKind). Does g.V.Visitor.takes (told fs ss)
    (on_ready (setting_of r) (spot_of r c.args.end) fs ss (content (Body.LetGo k c.args.gone))) c.let_go_ended.result c.let_go_ended.new.self
    c.args.visitor.now c.let_go_ended.new.visitor) (sym c.in-Short.is)
    (c.let_go_ended.ensures.does (payloads.Str c.args.gone) (ap layer_kind (views.outs-Str c.args.gone)) (ap layer_events (views.outs-Str c.args.gone)) fs ss h)

pub returns-in-Clob-clause-does : goal.returns-in-Clob-clause-does
returns-in-Clob-clause-does g c = λ fs ss h.
    let r = c.args.self.now in
    subst (λ (k : TextKind). Does g.V.Visitor.takes (told fs ss)
    (on_ready (setting_of r) (spot_of r c.args.end) fs ss (content (Body.LetGo k c.args.gone))) c.let_go_ended-in-Clob.result
    c.let_go_ended-in-Clob.new.self c.args.visitor.now c.let_go_ended-in-Clob.new.visitor) (sym c.in-Clob.is)
    (c.let_go_ended-in-Clob.ensures.does (payloads.Clob c.args.gone) (ap layer_kind (views.outs-Clob c.args.gone)) (ap layer_events (views.outs-Clob c.args.gone)) fs ss h)

pub returns-in-Blob-clause-does : goal.returns-in-Blob-clause-does
returns-in-Blob-clause-does g c = λ fs ss h.
    let r = c.args.self.now in
    subst (λ (k : TextKind). Does g.V.Visitor.takes (told fs ss)
    (on_ready (setting_of r) (spot_of r c.args.end) fs ss (content (Body.LetGo k c.args.gone))) c.let_go_ended-in-Blob.result
    c.let_go_ended-in-Blob.new.self c.args.visitor.now c.let_go_ended-in-Blob.new.visitor) (sym c.in-Blob.is)
    (c.let_go_ended-in-Blob.ensures.does (payloads.Blob c.args.gone) (ap layer_kind (views.outs-Blob c.args.gone)) (ap layer_events (views.outs-Blob c.args.gone)) fs ss h)
