use Rattle.std.proofs.Common.{ap, sym, ◌∙◌}
use Rattle.ion_text.specs.Names.{is_version}
use Rattle.ion_text.proofs.Walks.{word_plain}
use Rattle.ion_text.proofs.walk.unusual_tokens.word_value.Goals as goal

pub returns-clause-free : goal.returns-clause-free
returns-clause-free c = word_plain c.args.word.now (sym (c.is_version.ensures ∙ ap is_version c.as_bytes.ensures.value) ∙ c.if-is_version.false)
