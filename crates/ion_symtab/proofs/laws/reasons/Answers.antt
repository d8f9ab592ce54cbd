use Rattle.ion_symtab.specs.laws.Reasons.{resolve_fails, next_fails, shared_fails}
use Rattle.ion_symtab.proofs.laws.reasons.Goals as goal

pub returns : goal.returns
returns c = record { ids = resolve_fails; tables = next_fails; shared = shared_fails }
