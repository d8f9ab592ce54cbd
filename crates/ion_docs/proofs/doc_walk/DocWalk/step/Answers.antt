use Rattle.std.proofs.Common.{Bool, subst}
use Rattle.ion_docs.specs.Names.{DocTold, WalksOn, builds}
use Rattle.ion_symtab.specs.laws.Builds.{built_on, built_taken}
use Rattle.ion_docs.proofs.doc_walk.DocWalk.step.Goals as goal

pub returns-then-not-ended-clause-stands : goal.returns-then-not-ended-clause-stands
returns-then-not-ended-clause-stands c = λ u s h.
    let walked = c.in_ok-used.field-0 in
    let P : Bool → Type 0 = λ b. WalksOn builds DocTold u s h.0 c.args.piece.now walked.used b c.walk.new.self c.args.build.now c.walk.new.visitor in
    built_on DocTold c.walk.new.self c.args.build.now c.walk.new.visitor u s h.0 c.args.piece.now walked.used h.2
    (subst P c.if-not-ended.true (c.in_ok-used.ensures.tells u s h.0 h.1))

pub returns-in-Some-clause-stands : goal.returns-in-Some-clause-stands
returns-in-Some-clause-stands c = λ u s h.
    let walked = c.in_ok-used.field-0 in
    let P : Bool → Type 0 = λ b. WalksOn builds DocTold u s h.0 c.args.piece.now walked.used b c.walk.new.self c.args.build.now c.walk.new.visitor in
    built_taken DocTold c.walk.new.self c.args.build.now c.walk.new.visitor u s h.0 c.args.piece.now walked.used h.2
    (subst P c.if-not-ended.false (c.in_ok-used.ensures.tells u s h.0 h.1)) c.in-Some.value c.take.result c.take.new.self c.in-Some.is
    c.take.ensures.value c.take.ensures.left
