use Rattle.ion_symtab.specs.laws.LocalTables.{next_is}
use Rattle.ion_symtab.proofs.laws.local_tables.Goals as goal

pub returns : goal.returns
returns c = λ old new table tables. next_is tables old table new
