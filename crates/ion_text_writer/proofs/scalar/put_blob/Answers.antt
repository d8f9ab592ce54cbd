use Rattle.std.proofs.Common.{◌∙◌, ◌++◌, ap}
use Rattle.ion_text_writer.proofs.Appended.{appended_three}
use Rattle.ion_text_writer.proofs.scalar.put_blob.Goals as goal

pub returns-clause-ok : goal.returns-clause-ok
returns-clause-ok c =
    appended_three _ _ _ _ _ _ _ c.in_ok-extend_from_slice.ensures.items
    (c.in_ok-extend_from_slice-2.ensures.items ∙ ap (λ w. c.extend_from_slice.new.self.items ++ w) (c.as_bytes.ensures.value ∙ c.in_ok-text.ensures.text))
    c.in_ok-extend_from_slice-3.ensures.items
