use Rattle.std.proofs.Common.{Bool, Ok, subst}
use Rattle.ion_docs.specs.Names.{EndsOn, builds, chosen}
use Rattle.ion_symtab.specs.laws.Builds.{built_end}
use Rattle.ion_docs.proofs.doc_walk.DocWalk.finish.Goals as goal

pub returns-in-Ok-true-clause-ends : goal.returns-in-Ok-true-clause-ends
returns-in-Ok-true-clause-ends c = λ u s h.
    let t = chosen c.args.self.catalog.now c.args.self.limits u in
    let P : Bool → Type 0 = λ b. EndsOn builds t h.0 (Ok b) c.args.build c.finish_by-answer.new.visitor in
    built_end t h.0 c.args.build c.finish_by-answer.new.visitor h.2 (subst P c.in-Ok-true.field-0-test (c.in-Ok-true.ensures.ends u s h.0 h.1))
    c.take-value.result c.take-value.ensures.value
