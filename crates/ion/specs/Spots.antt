-- What is kept of the octets that were gone over.
use Rattle.std.specs.Prelude.{ℕ, ◌+◌, Bool, true, false, List, [], ◌∷◌, length, if◌then◌else◌}
use Rattle.ion.specs.Names.{Spot, begins_character, characters, ends_line, last_line, lines_before}

-- the last octet, or 0
abbrev pub last_octet : List ℕ → ℕ
last_octet [] = 0
last_octet (octet ∷ []) = octet
last_octet (octet ∷ following ∷ rest) = last_octet (following ∷ rest)

-- where the last of some octets stands: lines before it, octets and characters up to it, and itself
abbrev pub spot_of : List ℕ → Spot
spot_of octets = record {
  lines = lines_before octets;
  octets = length (last_line octets);
  characters =
      characters (last_line octets);
  last = last_octet octets;
}

-- at the next octet, which begins a line or not, and begins so many characters
abbrev pub stepped : Bool → ℕ → Spot → ℕ → Spot
stepped true began s octet = record { lines = s.lines + 1; octets = 1; characters = began; last = octet }
stepped false began s octet = record { lines = s.lines; octets = s.octets + 1; characters = s.characters + began; last = octet }

-- where the octet behind stands: on a new line where one ended before it, else further on the same
abbrev pub next : Spot → ℕ → Spot
next s octet = stepped (ends_line s.last octet) (if begins_character octet then 1 else 0) s octet
