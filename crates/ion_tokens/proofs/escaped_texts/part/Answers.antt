use Rattle.std.proofs.Common.{rules}
use Rattle.ion_tokens.proofs.runs.EscapedTexts.{characters_lead}
use Rattle.ion_tokens.proofs.escaped_texts.part.Goals as goal

-- characters
pub returns-clause-leads : goal.returns-clause-leads
returns-clause-leads c = characters_lead c.args.style _ _ _ c.characters-count.ensures.kept (search rules)
