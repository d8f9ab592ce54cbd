-- The tokens of the text format by their octets: of which kind they are, where, before what, and what is kept of them to be judged.
use Rattle.std.specs.Prelude.{◌≡◌, ◌≢◌, ℕ, ◌==◌, Bool, true, false, ◌&&◌, ◌||◌, not, List, [], ◌∷◌, ◌++◌, ◌⊎◌, codes}
use Rattle.std.specs.List.{flat_map, filter, AllByRecursion}
use Rattle.ion_tokens.specs.Names.Below.{Mark, Place, Style, TokenKind}
use Rattle.ion_tokens.specs.Ascii.{asterisk, dot, double_quote, lower_f, lower_i, lower_n, minus, open_brace, plus, single_quote, slash}
use Rattle.ion_tokens.specs.Ascii as ascii
use Rattle.ion_tokens.specs.Blobs.{IsBase64}
use Rattle.ion_tokens.specs.Octets.{begins_word, is_base64, is_digit, is_operator_octet, is_stop, is_white, is_word_octet}
use Rattle.ion_tokens.specs.Places.{is_name, is_sexp}
use Rattle.ion_tokens.specs.Quoted.{IsQuoted}

-- each octet is of the class
abbrev pub Each : (ℕ → Bool) → List ℕ → Type 0
Each class octets = AllByRecursion (λ o. class o ≡ true) octets

-- the first octet is there, and of the class
abbrev pub begins : (ℕ → Bool) → List ℕ → Bool
begins class [] = false
begins class (o ∷ os) = class o

-- the last octet is there, and of the class
abbrev pub ends : (ℕ → Bool) → List ℕ → Bool
ends class [] = false
ends class (o ∷ []) = class o
ends class (o ∷ p ∷ os) = ends class (p ∷ os)

-- `//` or `/*`
abbrev pub begins_comment : List ℕ → Bool
begins_comment [] = false
begins_comment (o ∷ os) = (o == slash) && begins (λ p. (p == slash) || (p == asterisk)) os

-- at some octet of w a comment begins, read on into r
abbrev pub comment_within : List ℕ → List ℕ → Bool
comment_within [] r = false
comment_within (o ∷ os) r = begins_comment (o ∷ os ++ r) || comment_within os r

-- a letter, `_` or `$`, then such or digits
abbrev pub IsWord : List ℕ → Type 0
IsWord w = (begins begins_word w ≡ true) × Each is_word_octet w

-- a digit, or `-` directly before one
abbrev pub begins_number : List ℕ → Bool
begins_number [] = false
begins_number (o ∷ os) = is_digit o || ((o == minus) && begins is_digit os)

-- A numeric token goes up to a stop character, a comment or the end. No number has a `/`.
pub record IsNumeric (w r : List ℕ) : Type 0 where
  pub begun : begins_number w ≡ true
  pub each : Each (λ o. not (is_stop o || (o == slash))) w
  pub longest : (r ≡ []) ⊎ ((begins is_stop r ≡ true) ⊎ (begins_comment r ≡ true))

-- the word `inf`, and no longer one
abbrev pub begins_infinity : List ℕ → Bool
begins_infinity [] = false
begins_infinity (i ∷ []) = false
begins_infinity (i ∷ n ∷ []) = false
begins_infinity (i ∷ n ∷ f ∷ r) = (i == lower_i) && ((n == lower_n) && ((f == lower_f) && not (begins is_word_octet r)))

-- A run of operator characters: no comment begins in it; it goes as far as there are such characters, up to a comment; no digit
-- comes behind its last `-`, with which a number would begin or which would be ambiguous; its last sign makes no float of `inf`.
pub record IsOperator (w r : List ℕ) : Type 0 where
  pub some : w ≢ []
  pub each : Each is_operator_octet w
  pub apart : comment_within w r ≡ false
  pub longest : (begins is_operator_octet r ≡ false) ⊎ (begins_comment r ≡ true)
  pub no_number : ends (λ o. o == minus) w ≡ true → begins is_digit r ≡ false
  pub no_float : ends (λ o. (o == plus) || (o == minus)) w ≡ true → begins_infinity r ≡ false

-- the content of a blob: base64 with white space anywhere
abbrev pub IsBlobContent : List ℕ → List ℕ → Type 0
IsBlobContent content octets = Each (λ o. is_white o || is_base64 o) content × IsBase64 (filter (λ o. not (is_white o)) content) octets

-- a segment of a long clob, and the white space behind it
pub record Segment : Type 0 where
  pub content : List ℕ
  pub octets : List ℕ
  pub white : List ℕ

-- the content means the octets, as that of a long clob, and white space stands behind it
abbrev pub IsSegment : Segment → Type 0
IsSegment g = IsQuoted Style.LongClob g.content g.octets × Each is_white g.white

-- the content between three quotes and three, and the white space
abbrev pub segment_spelling : Segment → List ℕ
segment_spelling g = codes "'''" ++ g.content ++ codes "'''" ++ g.white

-- one short segment, or one or more long ones, with white space around
pub data IsClobContent (content octets : List ℕ) : Type 0 where
  ShortText : (before text after : List ℕ) → Each is_white before → IsQuoted Style.ShortClob text octets → Each is_white after
      → content ≡ before ++ (double_quote ∷ text) ++ double_quote ∷ after → IsClobContent content octets
  LongTexts : (before : List ℕ) (segments : List Segment) → Each is_white before → segments ≢ [] → AllByRecursion IsSegment segments
      → content ≡ before ++ flat_map segment_spelling segments → octets ≡ flat_map (λ (g : Segment). g.octets) segments → IsClobContent content octets

-- the octets of a mark
abbrev pub mark_spelling : Mark → List ℕ
mark_spelling Mark.FieldsOpen = codes "{"
mark_spelling Mark.FieldsClose = codes "}"
mark_spelling Mark.ListOpen = codes "["
mark_spelling Mark.ListClose = codes "]"
mark_spelling Mark.SexpOpen = codes "("
mark_spelling Mark.SexpClose = codes ")"
mark_spelling Mark.Comma = codes ","
mark_spelling Mark.Colon = codes ":"
mark_spelling Mark.Colons = codes "::"

-- where a mark may stand: what opens or closes a list or an s-expression, or opens a struct, not in place of a field's name; a
-- colon only behind what may be a symbol or a field's name
abbrev pub MarkStands : Place → Bool → Mark → Type 0
MarkStands p colon Mark.FieldsClose = Unit {0}
MarkStands p colon Mark.Comma = Unit {0}
MarkStands p colon Mark.Colon = colon ≡ true
MarkStands p colon Mark.Colons = colon ≡ true
MarkStands p colon _ = is_name p ≡ false

-- a mark that may go on
abbrev pub MarkEnds : Mark → List ℕ → Type 0
MarkEnds Mark.FieldsOpen r = begins (λ o. o == open_brace) r ≡ false
MarkEnds Mark.Colon r = begins (λ o. o == ascii.colon) r ≡ false
MarkEnds _ r = Unit {0}

-- The octets w before r are a token of this kind in this place, of which these octets are kept: the word, the name behind `null.`,
-- the numeric token, the operator, the text in UTF-8, the octets of a clob or a blob. The Bool says whether a colon may stand here.
abbrev pub IsLexeme : Place → Bool → List ℕ → List ℕ → TokenKind → List ℕ → Type 0
IsLexeme p colon w r TokenKind.Word kept = (kept ≡ w) × IsWord w × (begins is_word_octet r ≡ false) × (w ≡ codes "null" → begins (λ o. o == dot) r ≡ false)
IsLexeme p colon w r TokenKind.KindName kept = (w ≡ codes "null." ++ kept) × Each is_word_octet kept × (begins is_word_octet r ≡ false)
IsLexeme p colon w r TokenKind.Number kept = (kept ≡ w) × (is_name p ≡ false) × IsNumeric w r
IsLexeme p colon w r TokenKind.Operator kept = (kept ≡ w) × (is_sexp p ≡ true) × IsOperator w r
IsLexeme p colon w r TokenKind.QuotedSymbol kept = (content : List ℕ) × IsQuoted Style.QuotedSymbol content kept
    × (w ≡ (single_quote ∷ content) ++ single_quote ∷ []) × (content ≡ [] → begins (λ o. o == single_quote) r ≡ false)
IsLexeme p colon w r TokenKind.ShortString kept = (content : List ℕ) × IsQuoted Style.ShortString content kept
    × (w ≡ (double_quote ∷ content) ++ double_quote ∷ [])
IsLexeme p colon w r TokenKind.LongString kept = (content : List ℕ) × IsQuoted Style.LongString content kept × (w ≡ codes "'''" ++ content ++ codes "'''")
IsLexeme p colon w r TokenKind.Clob kept = (is_name p ≡ false) × (content : List ℕ) × IsClobContent content kept × (w ≡ codes "{{" ++ content ++ codes "}}")
IsLexeme p colon w r TokenKind.Blob kept = (is_name p ≡ false) × (content : List ℕ) × IsBlobContent content kept × (w ≡ codes "{{" ++ content ++ codes "}}")
IsLexeme p colon w r (TokenKind.Mark m) kept = (kept ≡ []) × (w ≡ mark_spelling m) × MarkStands p colon m × MarkEnds m r

-- a token that isn't judged: its span, what it is, and what its octets mean
pub record Lexeme : Type 0 where
  pub start : ℕ
  pub end : ℕ
  pub kind : TokenKind
  pub octets : List ℕ

-- whether a colon may stand behind the token: behind what may be a symbol, and behind a field's name
abbrev pub takes_colon : Place → TokenKind → Bool
takes_colon p TokenKind.Word = true
takes_colon p TokenKind.KindName = true
takes_colon p TokenKind.QuotedSymbol = true
takes_colon p TokenKind.ShortString = is_name p
takes_colon p TokenKind.LongString = is_name p
takes_colon p _ = false

-- one segment of a long string
abbrev pub is_segment : TokenKind → Bool
is_segment TokenKind.LongString = true
is_segment _ = false
