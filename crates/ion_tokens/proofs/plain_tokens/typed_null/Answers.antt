use Rattle.std.proofs.Common.{◌∙◌, sym}
use Rattle.ion_tokens.proofs.plain_tokens.typed_null.Goals as goal

pub returns : goal.returns
returns c = (c.in_ok-name.name.now, sym c.kind_named.ensures ∙ c.in_ok-kind.was, c.in_ok-name.ensures)
