use Rattle.std.proofs.Common.{[], ◌∷◌, ◌++◌, None, refl, ap, sym, subst}
use Rattle.ion_text.specs.Names.{Reason, Tells, annotation, at, late}
use Rattle.ion_text.proofs.Opened.{notes_went}
use Rattle.ion_text.proofs.walk.TextWalk.annotation_keyword.Goals as goal

pub returns-clause-does : goal.returns-clause-does
returns-clause-does g c = λ fs ss h.
    let r = c.args.self.now in (
      fs,
      ss ++ None ∷ [],
      ap (λ n. late Reason.KeywordAsName (at r.start r.context fs (ss ++ None ∷ []) n)) (sym c.requires),
      notes_went g.V.Visitor.takes r _ None c.args.visitor.now c.annotation-told.new.visitor c.requires refl refl refl
          (subst (λ s. Tells g.V.Visitor.takes (annotation s) r.filter c.annotation-told.new.self c.args.visitor.now c.annotation-told.new.visitor) c.unknown-symbol.ensures (c.annotation-told.ensures c.in_ok-heard.ensures.ok)) fs ss h,
    )
