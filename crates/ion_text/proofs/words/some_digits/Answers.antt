use Rattle.std.proofs.Common.{◌∙◌, sym}
use Rattle.ion_text.proofs.Versions.{all_digits}
use Rattle.ion_text.proofs.words.some_digits.Goals as goal

pub returns-then-not-is_empty : goal.returns-then-not-is_empty
returns-then-not-is_empty c = c.are_digits.ensures ∙ all_digits c.args.octets.now (sym c.is_empty.ensures ∙ c.if-not-is_empty.true)
