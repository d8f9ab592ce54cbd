-- What stands between the quotes of a text or the braces of a lob that lies whole in memory, and the token that it is.
use Rattle.std.specs.Prelude.{◌≡◌, ℕ, ◌+◌, Bool, List, ◌++◌, length, ◌||◌, not}
use Rattle.std.specs.List.{filter}
use Rattle.ion_tokens.specs.Names.Below.{Lob, Mode, Place, Rest, Style, Within}
use Rattle.ion_tokens.specs.Lexemes.{Each}
use Rattle.ion_tokens.specs.Octets.{is_base64, is_white}
use Rattle.ion_tokens.specs.declared.token_reader.FoundToken.{FoundToken}
use Rattle.ion_tokens.specs.machine.Rests.{IsFound}
use Rattle.ion_tokens.specs.machine.Scanning.{Known, run}

-- between two characters of a text of this style, of which these octets are kept
abbrev pub between : Style → List ℕ → Bool → ℕ → ℕ → Known
between s kept colon start used = record { mode = Mode.Text s Within.Plain; kept = kept; colon = colon; start = start; used = used }

-- Over these octets a text of this style comes from between two characters to between two, whatever follows. The one list was kept
-- before, and the other is kept then.
abbrev pub LeadsOn : Style → List ℕ → List ℕ → List ℕ → Type 0
LeadsOn s octets kept kept' = (p : Place) (colon : Bool) (start used : ℕ) (behind : List ℕ)
    → run p (octets ++ behind) (between s kept colon start used) ≡ run p behind (between s kept' colon start (used + length octets))

-- Wherever a scanner rests, octets begin with this token, of which these are kept.
abbrev pub StandsWhole : List ℕ → List ℕ → FoundToken → Type 0
StandsWhole octets kept found = (p : Place) (r : Rest) → IsFound p r octets found.kind kept found.count found.left

-- The same where tokens stand in this place.
abbrev pub StandsIn : Place → List ℕ → List ℕ → FoundToken → Type 0
StandsIn p octets kept found = (r : Rest) → IsFound p r octets found.kind kept found.count found.left

-- These octets are content of a blob. The one list was kept before, and the base64 among them is kept behind it in the other.
abbrev pub AddsBase64 : List ℕ → List ℕ → List ℕ → Type 0
AddsBase64 content kept kept' = Each (λ o. is_white o || is_base64 o) content × (kept' ≡ kept ++ filter (λ o. not (is_white o)) content)

-- where a segment of a long clob may begin
abbrev pub BeginsSegment : Lob → Type 0
BeginsSegment Lob.Start = Unit {0}
BeginsSegment Lob.AfterLong = Unit {0}
BeginsSegment _ = ⊥

-- in a lob, of which these octets are kept
abbrev pub inside_lob : Lob → List ℕ → Bool → ℕ → ℕ → Known
inside_lob l kept colon start used = record { mode = Mode.Lob l; kept = kept; colon = colon; start = start; used = used }

-- Over these octets a long clob comes from where a segment may begin to behind one, whatever follows. The one list was kept before, and
-- the other is kept then.
abbrev pub AddsSegments : List ℕ → List ℕ → List ℕ → Type 0
AddsSegments octets kept kept' = (l : Lob) → BeginsSegment l → (p : Place) (colon : Bool) (start used : ℕ) (behind : List ℕ)
    → run p (octets ++ behind) (inside_lob l kept colon start used) ≡ run p behind (inside_lob Lob.AfterLong kept' colon start (used + length octets))
