use Rattle.ion_symtab.specs.laws.Tables.{newest_is, newest_greatest}
use Rattle.ion_symtab.proofs.laws.greatest.Goals as goal

pub returns : goal.returns
returns c = record { found = newest_is; there = newest_greatest }
