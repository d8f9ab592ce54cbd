use Rattle.ion_symtab.specs.laws.Contexts.{resolve_stays}
use Rattle.ion_symtab.proofs.laws.ids_stay.Goals as goal

pub returns : goal.returns
returns c = resolve_stays
