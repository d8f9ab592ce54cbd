-- What octets are.
use Rattle.std.specs.Prelude.{ℕ, ◌<◌, List, [], ◌∷◌, ◌++◌}
use Rattle.std.specs.List.{AllByRecursion}

-- whole numbers from 0 to 255
abbrev pub AreOctets : List ℕ → Type 0
AreOctets octets = AllByRecursion (λ o. o < 256) octets

-- and so is each part of octets
pub octets_front : (u w : List ℕ) → AreOctets (u ++ w) → AreOctets u
octets_front [] w h = tt
octets_front (o ∷ u) w h = (h.0, octets_front u w h.1)

-- what stands behind the front of octets is octets
pub octets_rest : (u w : List ℕ) → AreOctets (u ++ w) → AreOctets w
octets_rest [] w h = h
octets_rest (o ∷ u) w h = octets_rest u w h.1
