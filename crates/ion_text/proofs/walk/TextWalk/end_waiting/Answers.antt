use Rattle.std.proofs.Common.{Ok, ap, subst, ◌∙◌}
use Rattle.ion_text.specs.Names.{reading_of, settle, told}
use Rattle.ion_tokens.specs.machine.Steps.{Ends}
use Rattle.ion_text.proofs.Ends.{waits_none, waits_refused, waits_token}
use Rattle.ion_text.proofs.walk.TextWalk.end_waiting.Goals as goal

pub returns-in_default : goal.returns-in_default
returns-in_default g c = record {
  did =
      λ fs ss h used x ends.
      let r = c.args.self.now in
      waits_refused g.V.Visitor.takes r.catalog.now r.limits (told fs ss) used x c.end_open.result c.args.visitor.now c.end_open.new.visitor
      (settle r.catalog.now r.limits (reading_of r fs ss)) c.in-Err.refusal (subst (λ t. Ends used x t) c.in-Err.is ends) c.in_default.not-Memory
      (c.end_open.ensures.did fs ss h used);
}

pub returns-in-Ok-None : goal.returns-in-Ok-None
returns-in-Ok-None g c = record {
  did =
      λ fs ss h used x ends.
      let r = c.args.self.now in
      waits_none g.V.Visitor.takes r.catalog.now r.limits (told fs ss) used x c.end_settled.result c.args.visitor.now c.end_settled.new.visitor
      (settle r.catalog.now r.limits (reading_of r fs ss)) (subst (λ t. Ends used x t) (c.in-Ok-None.is ∙ ap Ok c.in-Ok-None.field-0-is) ends)
      (c.end_settled.ensures.did fs ss h used);
}

pub returns-in-Ok-Some : goal.returns-in-Ok-Some
returns-in-Ok-Some g c = record {
  did =
      λ fs ss h used x ends.
      let r = c.args.self.now in
      waits_token g.V.Visitor.takes r.catalog.now r.limits (told fs ss) used x c.end_open-in-Ok-Some.result c.args.visitor.now c.end_open-in-Ok-Some.new.visitor
      (settle r.catalog.now r.limits (reading_of r fs ss)) c.in-Ok-Some.found (subst (λ t. Ends used x t) (c.in-Ok-Some.is ∙ ap Ok c.in-Ok-Some.field-0-is) ends)
      (c.end_open-in-Ok-Some.ensures.did fs ss h used);
}
