-- In which line of a text an octet stands, and in which column. Octets are told as a list that the octet ends.
use Rattle.std.specs.Prelude.{◌≡◌, ℕ, ◌+◌, ◌==◌, ◌≤◌, Bool, false, not, ◌&&◌, ◌||◌, nat_le, nat_lt, List, [], ◌∷◌, length, take, max, count_by, if◌then◌else◌}
use Rattle.ion_symtab.specs.Heard.{Heard}
use Rattle.ion_symtab.specs.declared.inlet.Inlet.{Ghosts as Inlet}
use Rattle.ion.specs.declared.position.Position.{Position}

-- LF, and CR
abbrev pub line_feed : ℕ
line_feed = 0x0A

abbrev pub carriage_return : ℕ
carriage_return = 0x0D

-- a line ends with the first of two octets that follow each other: it is LF, or a CR that no LF follows
abbrev pub ends_line : ℕ → ℕ → Bool
ends_line octet following = (octet == line_feed) || ((octet == carriage_return) && not (following == line_feed))

-- whether a line ends with this octet, as a number; behind it come these, and it doesn't where none comes
abbrev pub end_at : ℕ → List ℕ → ℕ
end_at octet [] = 0
end_at octet (following ∷ rest) = if ends_line octet following then 1 else 0

-- how many lines end before the last of these octets
abbrev pub lines_before : List ℕ → ℕ
lines_before [] = 0
lines_before (octet ∷ rest) = end_at octet rest + lines_before rest

-- the line in which the last of these octets stands, up to that octet
abbrev pub last_line : List ℕ → List ℕ
last_line [] = []
last_line (octet ∷ rest) = if lines_before (octet ∷ rest) == 0 then octet ∷ rest else last_line rest

-- the octet begins a character in UTF-8: it isn't one of 80 to BF
abbrev pub begins_character : ℕ → Bool
begins_character octet = not (nat_le 0x80 octet && nat_lt octet 0xC0)

-- how many characters begin in these octets
abbrev pub characters : List ℕ → ℕ
characters octets = count_by begins_character octets

-- where the last of these octets stands; numbers begin with 1
abbrev pub position : List ℕ → Position
position octets = record {
  line = lines_before octets + 1;
  octet = max 1 (length (last_line octets));
  column = max 1 (characters (last_line octets));
}

-- From first to now the device handed over octets, at least so many unless it answered the end, and this is where the last of the first so many stands.
pub record IsPosition {S : Type 0} (R : Inlet S) (first now : S) (offset : ℕ) (p : Position) : Type 0 where
  pub octets : List ℕ
  pub ended : Bool
  pub heard : Heard R first now octets ended
  pub reached : ended ≡ false → offset ≤ length octets
  pub there : p ≡ position (take offset octets)
