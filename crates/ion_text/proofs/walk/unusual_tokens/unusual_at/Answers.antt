use Rattle.ion_text.specs.Names.{octets_in}
use Rattle.ion_text.proofs.walk.unusual_tokens.unusual_at.Goals as goal

pub returns-in-Ok : goal.returns-in-Ok
returns-in-Ok c = record { kept = octets_in c.token.new.self; found = c.in_ok-token.ensures.found; says = c.in-Ok.ensures.says }
