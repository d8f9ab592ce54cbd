-- A text whose front was let go: what comes of octets behind it is what comes without the front, which stands before what is kept.
use Rattle.std.specs.Prelude.{◌≡◌, ◌≢◌, ℕ, ◌<◌, ◌≤◌, Bool, true, false, ◌&&◌, nat_le, List, [], ◌++◌, length}
use Rattle.std.specs.Io.KnownBytes.{prepend_known}
use Rattle.std.specs.Str.{is_utf8}
use Rattle.ion_tokens.specs.Names.Below.{Lob, Mode, Style, TokenKind, Within}
use Rattle.ion_tokens.specs.Blobs.{blob_of}
use Rattle.ion_tokens.specs.Bodies.{Blob, Clob, Content, Long, Short}
use Rattle.ion_tokens.specs.Lexemes.{Lexeme}
use Rattle.ion_tokens.specs.machine.Scanning.{Given, Known, Left, Next, Outcome, Refused}

-- what is known with these octets before those that are kept
abbrev pub behind_gone : List ℕ → Known → Known
behind_gone gone s = record { mode = s.mode; kept = gone ++ s.kept; colon = s.colon; start = s.start; used = s.used }

-- a token with these octets before its own
abbrev pub begun_gone : List ℕ → Lexeme → Lexeme
begun_gone gone l = record { start = l.start; end = l.end; kind = l.kind; octets = gone ++ l.octets }

-- what comes with these octets before those that are kept: the token that ends has them, and what comes behind it hasn't
abbrev pub outcome_behind : List ℕ → Outcome → Outcome
outcome_behind gone (Next s) = Next (behind_gone gone s)
outcome_behind gone (Given l s) = Given (begun_gone gone l) s
outcome_behind gone (Left l s) = Left (begun_gone gone l) s
outcome_behind gone (Refused at reason) = Refused at reason

-- of a string's or a clob's text the front may be let go
abbrev pub may_lose : Style → Bool
may_lose Style.QuotedSymbol = false
may_lose _ = true

-- behind the text of a clob, too, and of the octets of a blob, once its base64 ended
abbrev pub is_behind_text : Lob → Bool
is_behind_text Lob.BlobClose = true
is_behind_text Lob.AfterShort = true
is_behind_text Lob.AfterLong = true
is_behind_text Lob.AfterQuote = true
is_behind_text Lob.AfterQuotes = true
is_behind_text Lob.ClobClose = true
is_behind_text _ = false

-- no short clob has raw quotes
abbrev pub may_let_go : Mode → Bool
may_let_go (Mode.Text Style.ShortClob Within.OneQuote) = false
may_let_go (Mode.Text Style.ShortClob Within.TwoQuotes) = false
may_let_go (Mode.Text s w) = may_lose s
may_let_go (Mode.Lob l) = is_behind_text l
may_let_go _ = false

-- so many octets that are kept last may be quotes of the close
abbrev pub quotes_kept : Mode → ℕ
quotes_kept (Mode.Text s Within.OneQuote) = 1
quotes_kept (Mode.Text s Within.TwoQuotes) = 2
quotes_kept _ = 0

-- a text goes on whose front may be let go, and not with quotes of its close
abbrev pub goes_on_behind : Mode → List ℕ → Bool
goes_on_behind m kept = may_let_go m && nat_le (quotes_kept m) (length kept)

-- Base64 at the front of a text stands for these octets: whatever follows, the text decodes to them and to what the rest decodes to.
unfoldable pub StandsFor : List ℕ → List ℕ → Type 0
StandsFor gone octets = (rest : List ℕ) → 0 < length rest → blob_of (gone ++ rest) ≡ prepend_known octets (blob_of rest)

-- it stands for some
abbrev pub Decodes : List ℕ → Type 0
Decodes gone = (octets : List ℕ) × StandsFor gone octets

-- what was let go of the front of a text, with octets for which it stands if it is base64
pub record IsFront (gone octets : List ℕ) (is_base64 : Bool) : Type 0 where
  pub fewer : length octets ≤ length gone
  pub stands : is_base64 ≡ true → StandsFor gone octets

-- what was let go of the front of a text, and whether it is known to be base64 of whole groups
pub record Front : Type 0 where
  pub octets : List ℕ
  pub is_base64 : Bool

-- in the content of a blob
abbrev pub in_base64 : Mode → Bool
in_base64 (Mode.Lob Lob.Base64) = true
in_base64 _ = false

-- in a string
abbrev pub in_string : Mode → Bool
in_string (Mode.Text Style.ShortString w) = true
in_string (Mode.Text Style.LongString w) = true
in_string _ = false

-- What was let go, if anything was, fits what is kept: it is base64 in the content of a blob, before more of it; else a text goes on behind
-- it; and of a string it is UTF-8.
pub record IsBehind (f : Front) (s : Known) : Type 0 where
  pub base64 : f.octets ≢ [] → in_base64 s.mode ≡ true → (f.is_base64 ≡ true) × (0 < length s.kept)
  pub text : f.octets ≢ [] → in_base64 s.mode ≡ false → goes_on_behind s.mode s.kept ≡ true
  pub utf8 : f.octets ≢ [] → in_string s.mode ≡ true → is_utf8 f.octets ≡ true

-- the tokens of which the front may be let go
abbrev pub is_text_kind : TokenKind → Bool
is_text_kind TokenKind.ShortString = true
is_text_kind TokenKind.LongString = true
is_text_kind TokenKind.Clob = true
is_text_kind TokenKind.Blob = true
is_text_kind _ = false

-- those that have to be UTF-8
abbrev pub is_string_kind : TokenKind → Bool
is_string_kind TokenKind.ShortString = true
is_string_kind TokenKind.LongString = true
is_string_kind _ = false

-- what one of them says
abbrev pub text_content : TokenKind → List ℕ → Content
text_content TokenKind.ShortString octets = Short octets
text_content TokenKind.LongString octets = Long octets
text_content TokenKind.Clob octets = Clob octets
text_content _ octets = Blob octets

-- before what is kept stands the base64 that was let go of a blob, and behind its end what that stands for
abbrev pub front_in : Mode → List ℕ → List ℕ → List ℕ
front_in (Mode.Lob Lob.Base64) gone octets = gone
front_in _ gone octets = octets

-- what comes where base64 was let go, with what stands before what is kept
abbrev pub outcome_decoded : List ℕ → List ℕ → Outcome → Outcome
outcome_decoded gone octets (Next s) = Next (behind_gone (front_in s.mode gone octets) s)
outcome_decoded gone octets (Given l s) = Given (begun_gone octets l) s
outcome_decoded gone octets (Left l s) = Left (begun_gone octets l) s
outcome_decoded gone octets (Refused at reason) = Refused at reason
