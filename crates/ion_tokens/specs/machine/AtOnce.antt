-- Octets with which a mode goes on as it is, taken up at once.
use Rattle.std.specs.Prelude.{ℕ, ◌+◌, ◌-◌, ◌==◌, Bool, true, false, ◌&&◌, ◌||◌, not, if◌then◌else◌, nat_le, List, ◌++◌, length, IsTrue, IsUtf8}
use Rattle.ion_tokens.specs.Names.Below.{Lob, Mode, Style, Within}
use Rattle.ion_tokens.specs.Ascii.{asterisk, backslash, line_feed, slash}
use Rattle.ion_tokens.specs.Lexemes.{Each}
use Rattle.ion_tokens.specs.Octets.{is_base64, is_line_end, is_operator_octet, is_stop, is_white, is_word_octet}
use Rattle.ion_tokens.specs.Styles.{is_clob, is_long, quote_of}
use Rattle.ion_tokens.specs.machine.Scanning.{Known, start_of}
use Rattle.ion_tokens.specs.machine.Table.{stands}

-- an ASCII character that a text in these quotes, long or not, keeps as it is, and no quote
abbrev pub is_between : Bool → ℕ → ℕ → Bool
is_between long quote o = (stands o || (long && (o == line_feed))) && not ((o == backslash) || (o == quote))

-- the same of a style
abbrev pub is_plain : Style → ℕ → Bool
is_plain s = is_between (is_long s) (quote_of s)

-- an octet of a character that such a text keeps as it is, and no quote
abbrev pub is_raw : Bool → ℕ → ℕ → Bool
is_raw long quote o = (stands o || (long && (o == line_feed)) || nat_le 128 o) && not ((o == backslash) || (o == quote))

-- Characters that a text of this style keeps as they are; those of a clob are ASCII.
abbrev pub AreKept : Style → List ℕ → Type 0
AreKept s w = Each (is_raw (is_long s) (quote_of s)) w × IsUtf8 w × (IsTrue (is_clob s) → Each (is_plain s) w)

-- a number goes on with it
abbrev pub is_numeric : ℕ → Bool
is_numeric o = not (is_stop o || (o == slash))

-- an octet of an operator that begins no comment
abbrev pub is_plain_operator : ℕ → Bool
is_plain_operator o = is_operator_octet o && not (o == slash)

-- the mode goes on as it is with this octet; of modes in which few such octets come in a row none is counted
abbrev pub goes_on : Mode → ℕ → Bool
goes_on Mode.Blank o = is_white o
goes_on Mode.LineComment o = not (is_line_end o)
goes_on Mode.BlockComment o = not (o == asterisk)
goes_on Mode.Word o = is_word_octet o
goes_on Mode.Number o = is_numeric o
goes_on (Mode.Text s Within.Plain) o = is_plain s o
goes_on (Mode.Lob Lob.Base64) o = is_base64 o
goes_on _ o = false

-- Over these octets the mode goes on as it is: it does with each of them, or they are characters that a text keeps as they are.
abbrev pub GoesOver : Mode → List ℕ → Type 0
GoesOver (Mode.Text s Within.Plain) w = AreKept s w
GoesOver m w = Each (goes_on m) w

-- whether the octets with which the mode goes on are kept; those of a blank aren't
abbrev pub keeps_them : Mode → Bool
keeps_them Mode.Blank = false
keeps_them Mode.LineComment = false
keeps_them Mode.BlockComment = false
keeps_them _ = true

-- what the scanner knows behind octets with which its mode goes on, of which there is one at least
abbrev pub gone_on : Known → List ℕ → Known
gone_on s w = record {
  mode = s.mode;
  kept = if keeps_them s.mode then s.kept ++ w else s.kept;
  colon = s.colon;
  start = start_of s.mode s.start (s.used + (length w - 1));
  used = s.used + length w;
}
