use Rattle.std.proofs.Common.{Bool, Some, None, subst, refl}
use Rattle.std.proofs.lemmas.Result.{err_from_is_err_and}
use Rattle.ion_text.specs.Names.{StepsOver, Told, WalksOn, builds, failed, if_ended, octets_used, pending}
use Rattle.ion_symtab.specs.laws.Builds.{built_on, built_taken}
use Rattle.ion_text.proofs.Builds.{step_answers}
use Rattle.ion_text.proofs.reader.TextReaderItems.step.Goals as goal

pub returns-then-not-ended-clause-stands : goal.returns-then-not-ended-clause-stands
returns-then-not-ended-clause-stands c = λ u s h.
    let walked = c.in_ok-used.field-0 in
    let r = c.args.self.now in
    let P : Bool → Type 0 = λ b. WalksOn builds Told u s h.0 c.args.piece.now walked.used b c.walk.new.self r.build c.walk.new.visitor in
    built_on Told c.walk.new.self r.build c.walk.new.visitor u s h.0 c.args.piece.now walked.used h.2
    (subst P c.if-not-ended.true (c.in_ok-used.ensures.tells u s h.0 h.1))

pub returns-in-Some-clause-stands : goal.returns-in-Some-clause-stands
returns-in-Some-clause-stands c = λ u s h.
    let walked = c.in_ok-used.field-0 in
    let r = c.args.self.now in
    let P : Bool → Type 0 = λ b. WalksOn builds Told u s h.0 c.args.piece.now walked.used b c.walk.new.self r.build c.walk.new.visitor in
    built_taken Told c.walk.new.self r.build c.walk.new.visitor u s h.0 c.args.piece.now walked.used h.2
    (subst P c.if-not-ended.false (c.in_ok-used.ensures.tells u s h.0 h.1)) c.in-Some.value c.take.result c.take.new.self c.in-Some.is
    c.take.ensures.value c.take.ensures.left

pub returns-then-not-ended-clause-answers : goal.returns-then-not-ended-clause-answers
returns-then-not-ended-clause-answers c = λ u s h.
    let walked = c.in_ok-used.field-0 in
    let old = c.args.self.now.walk in
    let new = c.walk.new.self in
    let there = returns-then-not-ended-clause-stands c u s h in
    let P : Bool → Type 0 = λ b. StepsOver octets_used pending (λ r. r.awaited) failed old new c.args.piece.now walked.used (if_ended b) in
    let leaves = subst P c.if-not-ended.true c.in_ok-used.ensures.leaves in
    step_answers old new u s there.0 c.args.piece.now walked.used None c.walk.ensures.setting leaves.used (λ none. leaves.uses_all refl) leaves.awaited
    there.1

pub returns-in-Some-clause-answers : goal.returns-in-Some-clause-answers
returns-in-Some-clause-answers c = λ u s h.
    let walked = c.in_ok-used.field-0 in
    let old = c.args.self.now.walk in
    let new = c.walk.new.self in
    let there = returns-in-Some-clause-stands c u s h in
    let P : Bool → Type 0 = λ b. StepsOver octets_used pending (λ r. r.awaited) failed old new c.args.piece.now walked.used (if_ended b) in
    let leaves = subst P c.if-not-ended.false c.in_ok-used.ensures.leaves in
    step_answers old new u s there.0 c.args.piece.now walked.used (Some c.in-Some.value) c.walk.ensures.setting leaves.used
    (λ none. absurd cc) leaves.awaited there.1

pub returns-in_err-used-clause-answers : goal.returns-in_err-used-clause-answers
returns-in_err-used-clause-answers c = λ u s h.
    let p = err_from_is_err_and c.from_residual.result c.from_residual.ensures.1 in
    rw (p.1, p.2) (c.in_err-used.ensures.answers u s h.0 h.1)
