-- Names, one after another, as numbers.
use Rattle.std.specs.Prelude.{ℕ, zero, suc, List, [], ◌∷◌, map}
use Rattle.ion_run.specs.Names.{Name}

-- a name as numbers: a 0 before its octets, each of which counts one more than it is
abbrev pub spelled : Name → List ℕ
spelled name = zero ∷ map (λ octet. suc octet) name

-- the octets up to the next 0
abbrev pub name_at : List ℕ → Name
name_at [] = []
name_at (zero ∷ numbers) = []
name_at (suc octet ∷ numbers) = octet ∷ name_at numbers

-- the names that begin there, each behind a 0
abbrev pub names_in : List ℕ → List Name
names_in [] = []
names_in (zero ∷ numbers) = name_at numbers ∷ names_in numbers
names_in (suc octet ∷ numbers) = names_in numbers
