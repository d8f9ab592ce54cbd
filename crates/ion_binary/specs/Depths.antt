-- How deep several values go.
use Rattle.std.specs.Prelude.{ℕ, List, map}
use Rattle.ion_binary.specs.Names.Below.{Field, Value, depth, greatest}

-- how deep the deepest goes
abbrev pub depths : List Value → ℕ
depths vs = greatest (map depth vs)

-- how deep the deepest value among fields goes
abbrev pub field_depths : List Field → ℕ
field_depths ms = greatest (map (λ f. depth f.value) ms)
