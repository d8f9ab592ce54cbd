use Rattle.std.proofs.Common.{rules, ◌≡◌, true, ◌∙◌}
use Rattle.ion_docs.specs.Names.{Took, TookFront}
use Rattle.ion_streams.proofs.Steps.{on_err}
use Rattle.ion_docs.specs.laws.Encodings.{text_one}
use Rattle.ion_docs.proofs.HandedOver.{text_ended, text_kept, took_added, took_none}
use Rattle.ion_docs.proofs.writers.TextOutEncoder.hand_over.Goals as goal

pub returns-then-not-ended-clause-front : goal.returns-then-not-ended-clause-front
returns-then-not-ended-clause-front g c = λ s v h. took_none g.W.Outlet c.args.out.now _ _ _ (text_one s v)

pub returns-in_err-write_whole-clause-front : goal.returns-in_err-write_whole-clause-front
returns-in_err-write_whole-clause-front g c =
    let done : c.ended.result ≡ true = search rules in
    on_err c.from_residual.result _ (λ s v h.
    took_added (TookFront g.W.Outlet.took g.W.Outlet.written c.args.out.now c.write_whole.new.writer) _ _ _ _ (text_one s v)
    (c.lines.ensures ∙ (text_ended s v c.args.self.now h c.ended.new.self (c.ended.ensures done)).0) c.in_err-write_whole.ensures.front)

pub returns-clause-wrote : goal.returns-clause-wrote
returns-clause-wrote g c =
    let done : c.ended.result ≡ true = search rules in
    λ s v h. took_added (Took g.W.Outlet.took g.W.Outlet.written c.args.out.now c.write_whole.new.writer) _ _ _ _ (text_one s v)
    (c.lines.ensures ∙ (text_ended s v c.args.self.now h c.ended.new.self (c.ended.ensures done)).0) c.in_ok-write_whole.ensures.whole

pub returns-clause-put : goal.returns-clause-put
returns-clause-put g c =
    let done : c.ended.result ≡ true = search rules in
    λ s v h. c.forget_lines.ensures ∙ (text_ended s v c.args.self.now h c.ended.new.self (c.ended.ensures done)).1

pub returns-clause-kept : goal.returns-clause-kept
returns-clause-kept g c = λ s v h. text_kept s v c.args.self.now h
