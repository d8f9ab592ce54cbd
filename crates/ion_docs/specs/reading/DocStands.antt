-- What a reader of either encoding stands for.
use Rattle.std.specs.Prelude.{ℕ, List}
use Rattle.ion_docs.specs.Names.{DocReader, DocTold, Event, HasBuilt, Value}

-- what the reader holds is that of these octets, with which it gave these values
abbrev pub DocStands : DocReader → List ℕ → List (Value × ℕ) → Type 0
DocStands d u s = HasBuilt d.walk d.build u s

-- behind these octets, with these values ended, so much was told of what is open
abbrev pub Told : DocReader → List ℕ → List (Value × ℕ) → List Event → Type 0
Told d u s es = DocTold d.walk u s es
