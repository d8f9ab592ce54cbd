-- When two paths are the same.
use Rattle.std.specs.Prelude.{ℕ, List, Bool, ◌&&◌, Option, Some, None, nat_eq}
use Rattle.std.specs.Option.{option_eq}
use lib.Pointwise.{pointwise}
use Rattle.ion_model.specs.Symbols.{symbol_same}
use Rattle.ion_model.specs.declared.path.Part.{Part}
use Rattle.ion_model.specs.declared.path.Part.TheVariants.{Item, Name}

-- the number of an item
abbrev pub item_of : Part → Option ℕ
item_of (Item number) = Some number
item_of (Name name) = None

-- the symbol of a name
abbrev pub name_of : Part → Option (Option (List ℕ))
name_of (Item number) = None
name_of (Name name) = Some name

-- both the same item, or the same name
abbrev pub part_same : Part → Part → Bool
part_same a b = option_eq nat_eq (item_of a) (item_of b) && option_eq symbol_same (name_of a) (name_of b)

-- part by part
abbrev pub path_same : List Part → List Part → Bool
path_same = pointwise part_same
