use Rattle.ion_symtab.specs.laws.Decided.{resolve_decides, next_decides}
use Rattle.ion_symtab.proofs.laws.decided.Goals as goal

pub returns : goal.returns
returns c = record {
  ids = resolve_decides;
  tables = next_decides;
}
