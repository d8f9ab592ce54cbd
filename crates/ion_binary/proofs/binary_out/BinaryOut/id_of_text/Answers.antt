use Rattle.std.proofs.Common.{◌≡◌, ◌∙◌, Some, ap, sym, subst}
use Rattle.ion_binary.specs.Names.{IsLater}
use Rattle.ion_binary.specs.visiting.BinaryOut.{Encoded}
use Rattle.ion_names.specs.laws.Later.{id_later}
use Rattle.ion_binary.proofs.binary_out.BinaryOut.id_of_text.Goals as goal

pub returns-then-is_text_at-clause-id : goal.returns-then-is_text_at-clause-id
returns-then-is_text_at-clause-id g c = λ later h.
    let names = c.self.inside.names in
    let same : names ≡ c.args.self.now.names = ap (λ (x : Encoded). x.names) c.self.view_is in
    c.is_text_at.ensures.id c.if-is_text_at.true
    ∙ id_later names (Some c.args.text.now) names later (sym (c.is_text_at.ensures.named c.if-is_text_at.true))
    (subst (λ n. IsLater n later) (sym same) h)
