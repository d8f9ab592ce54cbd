use Rattle.std.proofs.Common.{◌≡◌, ◌++◌, drop, option_map, option_to_list}
use Rattle.std.specs.List.{filter}
use Rattle.ion_model.specs.Names.{once_named, only, symbol_same}
use Rattle.ion_model.proofs.path.once_named.Given as goal

abbrev pub invariant-loop-field : goal.invariant-loop-field
invariant-loop-field l =
    only (option_to_list (option_map (λ f. f.now) l.found) ++ filter (λ f. symbol_same l.name f.name) (drop l.field-index l.fields))
    ≡ once_named l.name l.fields
