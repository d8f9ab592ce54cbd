use Rattle.std.proofs.Common.{ap}
use Rattle.ion_binary.specs.Names.{number_came, setting_of, spot_of, told}
use Rattle.ion_binary.proofs.Ending.{does_same}
use Rattle.ion_binary.proofs.Tellings.{does_alone}
use Rattle.ion_binary.proofs.walking.BinaryWalk.number_came.Goals as goal

pub returns-in-Length-clause-does : goal.returns-in-Length-clause-does
returns-in-Length-clause-does g c = λ fs h.
    let r = c.args.self.now in
    does_same g.V.Visitor.takes (told fs) _ _ c.sized.result c.sized.new.self c.args.visitor.now c.sized.new.visitor
    (ap (λ p. number_came (setting_of r) (spot_of r) fs p c.args.number) c.in-Length.is) (c.sized.ensures.does fs h)

pub returns-in-FieldName-clause-does : goal.returns-in-FieldName-clause-does
returns-in-FieldName-clause-does g c = λ fs h.
    let r = c.args.self.now in
    does_same g.V.Visitor.takes (told fs) _ _ c.name_came.result c.name_came.new.self c.args.visitor.now c.args.visitor.now
    (ap (λ p. number_came (setting_of r) (spot_of r) fs p c.args.number) c.in-FieldName.is)
    (does_alone g.V.Visitor.takes (told fs) _ c.name_came.result c.name_came.new.self c.args.visitor.now (c.name_came.ensures.does fs h))

pub returns-in-AnnotationsLength-clause-does : goal.returns-in-AnnotationsLength-clause-does
returns-in-AnnotationsLength-clause-does g c = λ fs h.
    let r = c.args.self.now in
    does_same g.V.Visitor.takes (told fs) _ _ c.count_came.result c.count_came.new.self c.args.visitor.now c.args.visitor.now
    (ap (λ p. number_came (setting_of r) (spot_of r) fs p c.args.number) c.in-AnnotationsLength.is)
    (does_alone g.V.Visitor.takes (told fs) _ c.count_came.result c.count_came.new.self c.args.visitor.now (c.count_came.ensures.does fs h))

pub returns-in-Annotation-clause-does : goal.returns-in-Annotation-clause-does
returns-in-Annotation-clause-does g c = λ fs h.
    let r = c.args.self.now in
    does_same g.V.Visitor.takes (told fs) _ _ c.annotation_came.result c.annotation_came.new.self c.args.visitor.now c.annotation_came.new.visitor
    (ap (λ p. number_came (setting_of r) (spot_of r) fs p c.args.number) c.in-Annotation.is) (c.annotation_came.ensures.does fs h)
