-- The spelling of a path.
use Rattle.std.specs.Prelude.{ℕ, List, [], ◌∷◌, ◌++◌, codes, decimal}
use Rattle.std.specs.List.{flat_map}
use Rattle.ion_docs.specs.Names.{Part, symbol_text}
use Rattle.ion_model.specs.declared.path.Part.TheVariants.{Item, Name}

-- an item is its number in brackets, a name its symbol as text documents spell it
abbrev pub part_text : Part → List ℕ
part_text (Item number) = codes "[" ++ (decimal number ++ codes "]")
part_text (Name name) = symbol_text name

-- the parts with one space between
abbrev pub path_text : List Part → List ℕ
path_text [] = []
path_text (part ∷ path) = part_text part ++ flat_map (λ next. codes " " ++ part_text next) path
