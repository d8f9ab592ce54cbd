use Rattle.ion_model.specs.declared.value.Payload.TheVariants as payloads
use Rattle.ion_binary.proofs.Judged.{on_ok, symbol_leaf}
use Rattle.ion_binary.proofs.walking.scalars.tell_symbol.Goals as goal

pub returns-clause-told : goal.returns-clause-told
returns-clause-told g c = on_ok c.heard.result c.heard.ensures.ok (λ w. (payloads.Symbol c.in_ok-symbol.symbol.now, c.in_ok-symbol.ensures, symbol_leaf c.in_ok-symbol.symbol.now, c.symbol.ensures w))
