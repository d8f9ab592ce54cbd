use Rattle.std.proofs.Common.{Some, refl}
use Rattle.ion_text.proofs.Opened.{notes_went}
use Rattle.ion_text.proofs.walk.TextWalk.annotated_by.Goals as goal

pub returns-clause-notes : goal.returns-clause-notes
returns-clause-notes g c =
    notes_went g.V.Visitor.takes c.args.self.now _ (Some c.args.text.now) c.args.visitor.now c.text_annotation.new.visitor c.requires.now refl refl refl
    (c.text_annotation.ensures c.in_ok-heard.ensures.ok)
