-- What stands between quotes, and the text or the octets that it means (Ion 1.0, strings, symbols and clobs of the text encoding).
use Rattle.std.specs.Prelude.{◌≡◌, ◌≢◌, ℕ, ◌+◌, ◌*◌, ◌<◌, ◌≤◌, ◌==◌, Bool, true, false, List, [], ◌∷◌, ◌++◌, length, if◌then◌else◌, ◌⊎◌, IsTrue, Option, Some, None, encode_utf8}
use Rattle.std.specs.List.{flat_map, AllByRecursion}
use Rattle.std.specs.Char.{IsScalar}
use Rattle.ion_tokens.specs.Names.Below.{Style}
use Rattle.ion_tokens.specs.Ascii.{backslash, carriage_return, form_feed, line_feed, lower_u, lower_x, single_quote, space, tab, upper_u, vertical_tab}
use Rattle.ion_tokens.specs.Octets.{escaped, hexadecimal_digit}
use Rattle.ion_tokens.specs.Styles.{is_clob, is_long, quote_of}

-- a character that may stand for itself: no control character but tab, VT and FF
abbrev pub IsRaw : Style → ℕ → Type 0
IsRaw s c = IsScalar c × (c ≢ backslash) × (IsTrue (is_long s) ⊎ (c ≢ quote_of s)) × ((c ≡ tab) ⊎ (c ≡ vertical_tab) ⊎ (c ≡ form_feed) ⊎ (space ≤ c))
    × (IsTrue (is_clob s) → c < 128)

-- in base sixteen n and then these digits are the number m
abbrev pub IsHexAfter : ℕ → List ℕ → ℕ → Type 0
IsHexAfter n [] m = n ≡ m
IsHexAfter n (o ∷ os) m = (d : ℕ) × (hexadecimal_digit o ≡ Some d) × IsHexAfter (n * 16 + d) os m

-- LF, CR or CR LF
pub data LineEnd : Type 0 where
  Lf : LineEnd
  Cr : LineEnd
  CrLf : LineEnd

abbrev pub line_end : LineEnd → List ℕ
line_end Lf = line_feed ∷ []
line_end Cr = carriage_return ∷ []
line_end CrLf = carriage_return ∷ line_feed ∷ []

-- one piece of a quoted text
pub data Element : Type 0 where
  Raw : ℕ → Element
  RawLine : LineEnd → Element
  Simple : (letter meaning : ℕ) → Element
  Hidden : LineEnd → Element
  Hex : (letter : ℕ) (digits : List ℕ) (c : ℕ) → Element
  Pair : (first second : List ℕ) (high low : ℕ) → Element

-- the number of digits behind \x, \u and \U
abbrev pub hex_length : ℕ → Option ℕ
hex_length letter = if letter == lower_x then Some 2 else (if letter == lower_u then Some 4 else (if letter == upper_u then Some 8 else None))

-- the piece may stand in a text of this style, and its parts belong together
abbrev pub IsElement : Style → Element → Type 0
IsElement s (Raw c) = IsRaw s c
IsElement s (RawLine _) = IsTrue (is_long s)
IsElement s (Simple letter meaning) = escaped letter ≡ Some meaning
IsElement s (Hidden _) = Unit {0}
IsElement s (Hex letter digits c) = (hex_length letter ≡ Some (length digits)) × IsHexAfter 0 digits c × IsScalar c × (IsTrue (is_clob s) → letter ≡ lower_x)
IsElement s (Pair first second high low) = (is_clob s ≡ false) × (length first ≡ 4) × (length second ≡ 4) × IsHexAfter 0 first (0xd800 + high) × (high < 1024)
    × IsHexAfter 0 second (0xdc00 + low) × (low < 1024)

-- the octets that a piece is spelled with
abbrev pub spelling : Element → List ℕ
spelling (Raw c) = encode_utf8 c
spelling (RawLine e) = line_end e
spelling (Simple letter _) = backslash ∷ letter ∷ []
spelling (Hidden e) = backslash ∷ line_end e
spelling (Hex letter digits _) = backslash ∷ letter ∷ digits
spelling (Pair first second _ _) = backslash ∷ lower_u ∷ first ++ backslash ∷ lower_u ∷ second

-- a text's characters in UTF-8, or a clob's octets
abbrev pub meaning : Style → Element → List ℕ
meaning s (Raw c) = encode_utf8 c
meaning s (RawLine _) = line_feed ∷ []
meaning s (Simple _ o) = o ∷ []
meaning s (Hidden _) = []
meaning s (Hex _ _ c) = if is_clob s then c ∷ [] else encode_utf8 c
meaning s (Pair _ _ high low) = encode_utf8 (0x10000 + high * 1024 + low)

-- a line end that is CR alone, raw or behind a backslash
abbrev pub ends_in_cr : Element → Bool
ends_in_cr (RawLine Cr) = true
ends_in_cr (Hidden Cr) = true
ends_in_cr _ = false

-- an LF that is no part of CR LF and stands behind no backslash
abbrev pub is_raw_lf : Element → Bool
is_raw_lf (RawLine Lf) = true
is_raw_lf _ = false

-- a CR before LF is never taken without it
abbrev pub CrTakesLf : List Element → Type 0
CrTakesLf [] = Unit {0}
CrTakesLf (e ∷ []) = Unit {0}
CrTakesLf (e ∷ f ∷ es) = (IsTrue (ends_in_cr e) → is_raw_lf f ≡ false) × CrTakesLf (f ∷ es)

-- a `'` that stands for itself
abbrev pub is_raw_quote : Element → Bool
is_raw_quote (Raw c) = c == single_quote
is_raw_quote _ = false

-- the raw quotes at the front, those of the close included
abbrev pub quotes : List Element → ℕ
quotes [] = 3
quotes (e ∷ es) = if is_raw_quote e then 1 + quotes es else 0

-- the first three raw quotes in a row are those of the close
abbrev pub ClosesFirst : List Element → Type 0
ClosesFirst [] = Unit {0}
ClosesFirst (e ∷ es) = (quotes (e ∷ es) < 3) × ClosesFirst es

-- The octets w between the quotes, and the octets that they mean.
pub record IsQuoted (s : Style) (w octets : List ℕ) : Type 0 where
  pub elements : List Element
  pub each : AllByRecursion (IsElement s) elements
  pub crs : CrTakesLf elements
  pub close : IsTrue (is_long s) → ClosesFirst elements
  pub spelled : w ≡ flat_map spelling elements
  pub means : octets ≡ flat_map (meaning s) elements
