-- What octets behind a descriptor make of it.
use Rattle.std.specs.Prelude.{◌≡◌, ℕ, List, ◌∷◌}
use Rattle.ion_binary.specs.Names.{Form, Header, Size, Sized, opening_of}

-- with these octets each descriptor of this size is the header of a body of n octets
abbrev pub Heads : Size → ℕ → List ℕ → Type 0
Heads size n w = (form : Form) (b : ℕ) → opening_of b ≡ Sized form size → Header form n (b ∷ w)
