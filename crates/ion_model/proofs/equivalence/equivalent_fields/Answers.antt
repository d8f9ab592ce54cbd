use Rattle.std.proofs.Common.{◌∙◌, ap, sym}
use Rattle.std.specs.Ordering.{is_eq}
use Rattle.std.specs.Cmp.Lexicographic.{slice_cmp}
use Rattle.ion_model.specs.Names.{field_cmp, order}
use Rattle.ion_model.proofs.CountLengths.{fields_same-lengths}
use Rattle.ion_model.proofs.NormalTies.{tied-fields}
use Rattle.ion_model.proofs.equivalence.equivalent_fields.Goals as goal

pub returns-then-len : goal.returns-then-len
returns-then-len c = fields_same-lengths c.args.fs.now c.args.gs.now (λ e. c.if-len.true (c.len.ensures ∙ e ∙ sym c.len-2.ensures))

pub returns : goal.returns
returns c =
    c.tied.ensures
    ∙ ap (λ l. is_eq (slice_cmp (field_cmp order) l c.deref-2.result.now)) c.deref.ensures.value
    ∙ ap (λ r. is_eq (slice_cmp (field_cmp order) c.in_ok-left.left.items r)) c.deref-2.ensures.value
    ∙ tied-fields c.args.fs.now c.args.gs.now c.in_ok-left.left.items c.in_ok-right.right.items c.in_ok-left.ensures c.in_ok-right.ensures
