use Rattle.std.proofs.Common.{ap, sym, ◌∙◌}
use Rattle.std.specs.Option.{is_some}
use Rattle.ion_symtab.proofs.Walking.{went_over, went_to_end}
use Rattle.ion_text.specs.Names.{Told, failed, if_ended, octets_used, pending, trace}
use Rattle.ion_text.proofs.WalkRuns.{let_go_leaves, let_go_tells}
use Rattle.ion_text.proofs.walk.TextWalk.go_on.Goals as goal

pub returns-in-Ok-clause-walks : goal.returns-in-Ok-clause-walks
returns-in-Ok-clause-walks g c =
    let r = c.args.self.now in
    let x = c.in-Ok.ensures in
    went_to_end g.V.Visitor.takes octets_used pending (λ r. r.awaited) failed Told (trace r.catalog.now r.limits) r c.advance_on.new.self c.args.piece.now
    c.args.visitor.now c.advance_on.new.visitor (ap is_some (sym c.failure.ensures) ∙ (sym c.is_some.ensures ∙ c.if-is_some.false)) c.in-Ok.walked
    x.leaves x.tells c.if-walked.true

pub returns-in-Ok-2-clause-walks : goal.returns-in-Ok-2-clause-walks
returns-in-Ok-2-clause-walks g c =
    let r = c.args.self.now in
    let new = c.advance_on.new.self in
    let after = c.let_go.new.self in
    let piece = c.args.piece.now in
    let x = c.in-Ok.ensures in
    let y = c.let_go.ensures in
    let w = c.in-Ok.walked in
    went_over g.V.Visitor.takes octets_used pending (λ r. r.awaited) failed Told (trace r.catalog.now r.limits) r after piece
    c.args.visitor.now c.advance_on.new.visitor (ap is_some (sym c.failure.ensures) ∙ (sym c.is_some.ensures ∙ c.if-is_some.false)) w
    (let_go_leaves r new after piece w.used (if_ended w.ended) y.used y.pending y.awaited y.failed x.leaves)
    (λ u s es t. let_go_tells r new after piece w.used g.V.Visitor.takes c.args.visitor.now c.advance_on.new.visitor y.told u s es w.ended (x.tells u s es t))
    c.if-walked.false
