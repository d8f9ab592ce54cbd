use Rattle.std.proofs.Common.{arith}
use Rattle.ion_binary.proofs.Unread.{symbol_unread}
use Rattle.ion_binary.proofs.walking.unread.is_symbol.Goals as goal

pub returns : goal.returns
returns c = λ _. symbol_unread _ _ c.in-Some.id _ c.in-Some.ensures (omega arith) c.in-Ok.ensures
