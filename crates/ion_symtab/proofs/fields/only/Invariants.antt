use Rattle.std.proofs.Common.{◌≡◌, ◌++◌, drop, option_copied}
use Rattle.std.specs.Option.{option_to_list}
use Rattle.ion_symtab.specs.Names.{values_of}
use Rattle.ion_symtab.proofs.fields.only.Given as goal

abbrev pub invariant-loop-field : goal.invariant-loop-field
invariant-loop-field l = values_of l.name l.fields ≡ option_to_list (option_copied l.found) ++ values_of l.name (drop l.field-index l.fields)
