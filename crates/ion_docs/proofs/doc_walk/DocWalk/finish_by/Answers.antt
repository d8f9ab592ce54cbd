use Rattle.std.proofs.Common.{true, false}
use Rattle.ion_docs.specs.Names.{Binary, Text}
use Rattle.ion_binary.specs.walking.Runs as binary
use Rattle.ion_text.specs.walk.Runs as text
use Rattle.ion_docs.proofs.Walks.{ends_forward, inside}
use Rattle.ion_docs.proofs.doc_walk.DocWalk.finish_by.Goals as goal

pub returns-in-Binary-clause-ends : goal.returns-in-Binary-clause-ends
returns-in-Binary-clause-ends g c =
    let d = c.args.self in
    let old = c.in-Binary.walk in
    ends_forward d true old.limits old.catalog.now (binary.Told old) (λ u s es. inside d (Binary old) u s es c.in-Binary.is) g.V.Visitor.takes
    c.finish_by.result c.args.visitor.now c.finish_by.new.visitor (rw c.in-Binary.is at c.finish_by.ensures.ends)

pub returns-in-Text-clause-ends : goal.returns-in-Text-clause-ends
returns-in-Text-clause-ends g c =
    let d = c.args.self in
    let old = c.in-Text.walk in
    ends_forward d false old.limits old.catalog.now (text.Told old) (λ u s es. inside d (Text old) u s es c.in-Text.is) g.V.Visitor.takes
    c.finish_by-in-Text.result c.args.visitor.now c.finish_by-in-Text.new.visitor (rw c.in-Text.is at c.finish_by-in-Text.ensures.ends)
