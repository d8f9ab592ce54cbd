-- That paths are the same is reflexive, symmetric and transitive.
use Rattle.std.proofs.Common.{rules}
use Rattle.std.specs.Cmp.{IsEquivalence}
use Rattle.std.specs.Cmp.Rules.{comparing}
use Rattle.std.specs.Option.{option_eq}
use Rattle.std.specs.Prelude.{nat_eq}
use Rattle.std.proofs.lemmas.Cmp.{and_equiv, on_equiv, lists_equiv}
use Rattle.ion_model.specs.Symbols.{symbol_same}
use Rattle.ion_model.specs.Paths.{item_of, name_of, part_same, path_same}

items_same-equiv : IsEquivalence (option_eq nat_eq)
items_same-equiv = search (comparing, rules)

names_same-equiv : IsEquivalence (option_eq symbol_same)
names_same-equiv = search (comparing, rules)

-- whether two parts of paths are the same is an equivalence
pub part_same-equiv : IsEquivalence part_same
part_same-equiv = and_equiv (on_equiv item_of items_same-equiv) (on_equiv name_of names_same-equiv)

-- whether two paths are the same is an equivalence
pub path_same-equiv : IsEquivalence path_same
path_same-equiv = lists_equiv part_same-equiv
