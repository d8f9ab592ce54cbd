use Rattle.std.proofs.Common.{arith, sym, ◌∙◌}
use Rattle.ion_binary.proofs.Unread.{negative_read, negative_unread}
use Rattle.ion_binary.proofs.walking.unread.is_negative.Goals as goal

pub returns-then-body-ne0 : goal.returns-then-body-ne0
returns-then-body-ne0 c = λ e x. negative_unread x _ (omega arith) (sym c.is_uint.ensures ∙ e)

pub returns : goal.returns
returns c = λ e x. negative_read x _ c.int_of.result c.int_of.ensures (sym c.is_ok.ensures.value ∙ e)
