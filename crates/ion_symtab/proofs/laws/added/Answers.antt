use Rattle.ion_symtab.specs.laws.Tables.{find_added, best_added, find_others}
use Rattle.ion_symtab.proofs.laws.added.Goals as goal

pub returns : goal.returns
returns c = record { itself = find_added; best = best_added; others = find_others }
