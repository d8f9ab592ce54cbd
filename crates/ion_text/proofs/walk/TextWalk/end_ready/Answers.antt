use Rattle.std.proofs.Common.{Ok, ap, sym, ◌∙◌, subst}
use Rattle.ion_text.specs.Names.{reading_of, told}
use Rattle.ion_tokens.specs.machine.Steps.{Ends}
use Rattle.ion_text.proofs.Endings.{ready_refused}
use Rattle.ion_text.proofs.Ends.{readies_token, ready_cut, ready_fresh}
use Rattle.ion_text.proofs.walk.TextWalk.end_ready.Goals as goal

pub returns-in-Err : goal.returns-in-Err
returns-in-Err g c = record {
  did = λ fs ss h used x ends. let r = c.args.self.now in ready_refused r.catalog.now r.limits used (reading_of r fs ss) x c.in-Err.refusal
      (subst (λ t. Ends used x t) c.in-Err.is ends);
}

pub returns-in-Ok-Some : goal.returns-in-Ok-Some
returns-in-Ok-Some g c = record {
  did =
      λ fs ss h used x ends.
      let r = c.args.self.now in
      readies_token g.V.Visitor.takes r.catalog.now r.limits (told fs ss) used x c.end_turned.result c.args.visitor.now c.end_turned.new.visitor (reading_of r fs ss)
      c.in-Ok-Some.token (subst (λ t. Ends used x t) (c.in-Ok-Some.is ∙ ap Ok c.in-Ok-Some.field-0-is) ends) (c.end_turned.ensures.did fs ss h used);
}

pub returns-then-is_fresh : goal.returns-then-is_fresh
returns-then-is_fresh g c = record {
  did =
      λ fs ss h used x ends.
      let r = c.args.self.now in
      ready_fresh g.V.Visitor.takes r.catalog.now r.limits used x r fs ss c.args.visitor.now
      (subst (λ t. Ends used x t) (c.in-Ok-None.is ∙ ap Ok c.in-Ok-None.field-0-is) ends) (sym c.if-is_fresh.true ∙ c.is_fresh.ensures fs ss h);
}

pub returns-else-is_fresh : goal.returns-else-is_fresh
returns-else-is_fresh g c = record {
  did =
      λ fs ss h used x ends.
      let r = c.args.self.now in
      ready_cut g.V.Visitor.takes r.catalog.now r.limits used x r fs ss c.args.visitor.now
      (subst (λ t. Ends used x t) (c.in-Ok-None.is ∙ ap Ok c.in-Ok-None.field-0-is) ends) (sym c.if-is_fresh.false ∙ c.is_fresh.ensures fs ss h);
}
