use Rattle.ion_symtab.specs.laws.Tables.{find_is, find_some}
use Rattle.ion_symtab.proofs.laws.exact.Goals as goal

pub returns : goal.returns
returns c = record { found = find_is; there = find_some }
