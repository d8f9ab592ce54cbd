-- What a reader stands for that builds the values of which a walk tells.
use Rattle.std.specs.Prelude.{ℕ, List}
use Rattle.ion_text.specs.Names.{Event, Led, TextReader, Told, Value, builds}
use Rattle.ion_visiting.specs.Building.{fresh}

-- The walk stands for these octets, of which these values ended, and what builds heard all that there is to tell so far of the value that is
-- open.
abbrev pub HasBuilt : TextReader → List ℕ → List (Value × ℕ) → Type 0
HasBuilt r u s = (es : List Event) × Told r.walk u s es × Led builds es fresh r.build
