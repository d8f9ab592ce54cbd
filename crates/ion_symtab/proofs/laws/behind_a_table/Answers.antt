use Rattle.ion_symtab.specs.laws.Contexts.{next_follows, next_begins}
use Rattle.ion_symtab.proofs.laws.behind_a_table.Goals as goal

pub returns : goal.returns
returns c = record {
  begins = λ c d v g e. (next_follows c v g d e).0;
  system = λ c d v g e. next_begins c v g d e;
  bounded = λ c d v g e. (next_follows c v g d e).1;
}
