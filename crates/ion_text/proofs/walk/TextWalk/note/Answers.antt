use Rattle.std.proofs.Common.{[], ◌∷◌, ◌++◌, refl, ap, sym}
use Rattle.ion_text.specs.Names.{at, goes}
use Rattle.ion_text.proofs.Opened.{notes_went}
use Rattle.ion_text.proofs.walk.TextWalk.note.Goals as goal

pub returns-clause-does : goal.returns-clause-does
returns-clause-does g c = λ fs ss h.
    let r = c.args.self.now in (
      fs,
      ss ++ c.args.symbol ∷ [],
      ap (λ n. goes (at r.start r.context fs (ss ++ c.args.symbol ∷ []) n)) (sym c.requires),
      notes_went g.V.Visitor.takes r _ c.args.symbol c.args.visitor.now c.annotation-told.new.visitor c.requires refl refl refl
          (c.annotation-told.ensures c.in_ok-heard.ensures.ok) fs ss h,
    )
