-- What a reader that builds values stands for.
use Rattle.std.specs.Prelude.{ℕ, List}
use Rattle.ion_binary.specs.Names.Below.{BinaryReader, Event, Led, Value, builds, fresh}
use Rattle.ion_binary.specs.walking.Runs.{Told}

-- its walk told these octets, and what builds its values heard all that was told of what is open
abbrev pub Stands : BinaryReader → List ℕ → List (Value × ℕ) → Type 0
Stands r u s = (es : List Event) × Told r.walk u s es × Led builds es fresh r.build
