use Rattle.std.proofs.Common.{sym, ◌∙◌, rules}
use Rattle.ion_binary.proofs.Unread.{ascii_utf8}
use Rattle.ion_binary.proofs.walking.scalars.is_utf8.Goals as goal

pub returns-then-are_ascii : goal.returns-then-are_ascii
returns-then-are_ascii c = (λ _. ascii_utf8 _ (sym c.are_ascii.ensures ∙ c.if-are_ascii.true), λ _. search rules)
