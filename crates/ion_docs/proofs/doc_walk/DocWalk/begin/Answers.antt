use Rattle.std.proofs.Common.{◌∙◌, refl, sym, subst, true, false}
use Rattle.ion_docs.specs.Names.{DocTold, DocWalk}
use Rattle.ion_binary.specs.walking.Runs as binary
use Rattle.ion_text.specs.walk.Ends as ends
use Rattle.ion_text.specs.walk.Runs as text
use Rattle.ion_docs.proofs.Chosen.{binary_at_first, other_at_first}
use Rattle.ion_docs.proofs.Walks.{first_says, first_tells, first_walked}
use Rattle.ion_docs.proofs.doc_walk.DocWalk.begin.Goals as goal

pub returns-in-Ok-clause-tells : goal.returns-in-Ok-clause-tells
returns-in-Ok-clause-tells g c =
    let old = c.in-Ok.walk in
    let new = c.walk-result.new.self in
    let begins = binary_at_first c.args.piece.now c.in-Some-eq224.field-0.now c.in-Some-eq224.ensures.value c.in-Some-eq224.field-0-test in
    first_tells c.args.self.now true (binary.Told old) c.args.piece.now c.requires.unbegun begins c.in-Ok.ensures.told g.V.Visitor.takes binary.Told new
    c.go_on.new.self c.walk-result.result c.args.visitor.now c.walk-result.new.visitor
    (λ u s es told begun. subst (λ (x : DocWalk). DocTold x u s es) (sym c.go_on.ensures)
    (told, begun, c.walk-result.ensures.setting.1 ∙ c.in-Ok.ensures.limits, c.walk-result.ensures.setting.0 ∙ c.in-Ok.ensures.catalog))
    (first_walked binary.taken binary.pending binary.awaits binary.failed true old new c.args.piece.now c.walk-result.result refl begins
    c.walk-result.ensures.leaves)
    c.walk-result.ensures.tells

pub returns-in-Ok-clause-answers : goal.returns-in-Ok-clause-answers
returns-in-Ok-clause-answers g c =
    let old = c.in-Ok.walk in
    let begins = binary_at_first c.args.piece.now c.in-Some-eq224.field-0.now c.in-Some-eq224.ensures.value c.in-Some-eq224.field-0-test in
    first_says c.args.self.now true (binary.Told old) c.args.piece.now c.requires.unbegun begins c.in-Ok.ensures.told c.walk-result.result
    old.limits old.catalog.now c.in-Ok.ensures.limits c.in-Ok.ensures.catalog c.walk-result.ensures.answers

pub returns-in-Ok-new-clause-tells : goal.returns-in-Ok-new-clause-tells
returns-in-Ok-new-clause-tells g c =
    let old = c.in-Ok-new.walk in
    let new = c.walk-result-in-Ok-new.new.self in
    let begins = other_at_first c.args.piece.now c.in-Some.field-0.now c.in-Some.ensures.value c.in-Some.field-0-test.1 in
    first_tells c.args.self.now false (text.Told old) c.args.piece.now c.requires.unbegun begins c.in-Ok-new.ensures.begins.told g.V.Visitor.takes text.Told
    new c.go_on-in-Ok-new.new.self c.walk-result-in-Ok-new.result c.args.visitor.now c.walk-result-in-Ok-new.new.visitor
    (λ u s es told begun. subst (λ (x : DocWalk). DocTold x u s es) (sym c.go_on-in-Ok-new.ensures) (
      told,
      begun,
      c.walk-result-in-Ok-new.ensures.setting.1 ∙ c.in-Ok-new.ensures.begins.limits,
      c.walk-result-in-Ok-new.ensures.setting.0 ∙ c.in-Ok-new.ensures.begins.catalog,
    ))
    (first_walked ends.octets_used text.pending (λ r. r.awaited) ends.failed false old new c.args.piece.now c.walk-result-in-Ok-new.result
    c.in-Ok-new.ensures.begins.pending begins c.walk-result-in-Ok-new.ensures.leaves)
    c.walk-result-in-Ok-new.ensures.tells

pub returns-in-Ok-new-clause-answers : goal.returns-in-Ok-new-clause-answers
returns-in-Ok-new-clause-answers g c =
    let old = c.in-Ok-new.walk in
    let begins = other_at_first c.args.piece.now c.in-Some.field-0.now c.in-Some.ensures.value c.in-Some.field-0-test.1 in
    first_says c.args.self.now false (text.Told old) c.args.piece.now c.requires.unbegun begins c.in-Ok-new.ensures.begins.told
    c.walk-result-in-Ok-new.result old.limits old.catalog.now c.in-Ok-new.ensures.begins.limits c.in-Ok-new.ensures.begins.catalog
    c.walk-result-in-Ok-new.ensures.answers
