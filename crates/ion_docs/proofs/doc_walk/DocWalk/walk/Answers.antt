use Rattle.std.proofs.Common.{◌∙◌, true, false}
use Rattle.ion_docs.specs.Names.{Binary, Text}
use Rattle.ion_binary.specs.walking.Runs as binary
use Rattle.ion_text.specs.walk.Runs as text
use Rattle.ion_docs.proofs.Walks.{answers_forward, inside, tells_forward}
use Rattle.ion_docs.proofs.doc_walk.DocWalk.walk.Goals as goal

pub returns-in-Text-clause-tells : goal.returns-in-Text-clause-tells
returns-in-Text-clause-tells g c =
    let d = c.args.self.now in
    let old = c.in-Text.walk in
    let new = c.walk.new.self in
    tells_forward d false old.limits old.catalog.now (text.Told old) (λ u s es. inside d (Text old) u s es c.in-Text.is) g.V.Visitor.takes text.Told new
    (record d { encoding = Text new }) c.args.piece.now c.walk.result c.args.visitor.now c.walk.new.visitor
    (λ u s es told begun within under. (told, begun, c.walk.ensures.setting.1 ∙ within, c.walk.ensures.setting.0 ∙ under)) c.walk.ensures.tells

pub returns-in-Text-clause-answers : goal.returns-in-Text-clause-answers
returns-in-Text-clause-answers g c =
    let d = c.args.self.now in
    let old = c.in-Text.walk in
    answers_forward d false old.limits old.catalog.now (text.Told old) (λ u s es. inside d (Text old) u s es c.in-Text.is) c.args.piece.now c.walk.result
    c.walk.ensures.answers

pub returns-in-Binary-clause-tells : goal.returns-in-Binary-clause-tells
returns-in-Binary-clause-tells g c =
    let d = c.args.self.now in
    let old = c.in-Binary.walk in
    let new = c.walk-in-Binary.new.self in
    tells_forward d true old.limits old.catalog.now (binary.Told old) (λ u s es. inside d (Binary old) u s es c.in-Binary.is) g.V.Visitor.takes binary.Told
    new (record d { encoding = Binary new }) c.args.piece.now c.walk-in-Binary.result c.args.visitor.now c.walk-in-Binary.new.visitor
    (λ u s es told begun within under. (told, begun, c.walk-in-Binary.ensures.setting.1 ∙ within, c.walk-in-Binary.ensures.setting.0 ∙ under))
    c.walk-in-Binary.ensures.tells

pub returns-in-Binary-clause-answers : goal.returns-in-Binary-clause-answers
returns-in-Binary-clause-answers g c =
    let d = c.args.self.now in
    let old = c.in-Binary.walk in
    answers_forward d true old.limits old.catalog.now (binary.Told old) (λ u s es. inside d (Binary old) u s es c.in-Binary.is) c.args.piece.now
    c.walk-in-Binary.result c.walk-in-Binary.ensures.answers
