-- What one octet can do to what is open: the words for who looks one octet ahead. Crates above cite these names.
use Rattle.std.specs.Prelude.{◌≡◌, ℕ, Bool, true, false, ◌==◌, ◌&&◌, ◌||◌, List, [], ◌∷◌}
use Rattle.ion_tokens.specs.Names.{Form, Given, Known, Left, Mark, Mode, Next, Outcome, Place, Refused, TokenKind, Within, asterisk, feed, form_of, is_idle, is_long, is_segment, is_sexp, slash}

-- the token is a quoted symbol
abbrev pub is_quoted : TokenKind → Bool
is_quoted TokenKind.QuotedSymbol = true
is_quoted _ = false

-- the token is a mark
abbrev pub is_mark : TokenKind → Bool
is_mark (TokenKind.Mark m) = true
is_mark _ = false

-- the token is `::`
abbrev pub is_colons : TokenKind → Bool
is_colons (TokenKind.Mark Mark.Colons) = true
is_colons _ = false

-- a mark that is whole with its last octet, or a colon
abbrev pub is_closing : TokenKind → Bool
is_closing (TokenKind.Mark Mark.FieldsOpen) = false
is_closing (TokenKind.Mark m) = true
is_closing _ = false

-- a quote that may be a segment of a long string, or a segment
abbrev pub is_long_form : Form → Bool
is_long_form Form.Other = false
is_long_form _ = true

-- a quote is open that may be a segment of a long string, or a segment
abbrev pub is_quoting : Mode → Bool
is_quoting m = is_long_form (form_of m)

-- one or two raw quotes are kept open in long texts alone
abbrev pub is_sane : Mode → Bool
is_sane (Mode.Text s Within.OneQuote) = is_long s
is_sane (Mode.Text s Within.TwoQuotes) = is_long s
is_sane _ = true

-- What comes of an octet: a token that has begun isn't forgotten; a segment of a long string comes of what may be one; marks of one
-- octet, and colons, come where none has begun; and but in s-expressions none is open behind a token that was left.
abbrev pub Follows : Place → Mode → Outcome → Type 0
Follows p m (Next s) = (is_sane s.mode ≡ true) × (is_idle m ≡ false → is_idle s.mode ≡ false)
    × (is_idle m ≡ false → is_quoting m ≡ false → is_quoting s.mode ≡ false)
Follows p m (Given l s) = (is_idle m ≡ false → is_mark l.kind ≡ false) × (is_idle m ≡ false → is_quoting m ≡ false → is_segment l.kind ≡ false)
Follows p m (Left l s) = (is_sexp p ≡ false → is_idle s.mode ≡ true) × (is_idle m ≡ false → is_closing l.kind ≡ false)
Follows p m (Refused n e) = Unit {0}

-- the octet is used, or refused
abbrev pub IsUsed : Outcome → Type 0
IsUsed (Left l s) = ⊥
IsUsed _ = Unit {0}

-- the mode in which an octet is looked at again: a blank; behind the `/` of a comment that it opens; or behind letters of a word
abbrev pub LeftIn : ℕ → Mode → Type 0
LeftIn o Mode.Blank = Unit {0}
LeftIn o Mode.Slash = ((o == slash) || (o == asterisk)) ≡ true
LeftIn o Mode.Word = Unit {0}
LeftIn o _ = ⊥

-- a token that is left before this octet leaves it in such a mode
abbrev pub LeavesIn : ℕ → Outcome → Type 0
LeavesIn o (Left l s) = LeftIn o s.mode
LeavesIn o _ = Unit {0}

-- behind what may be a symbol, `::` may yet come
abbrev pub symbol_waits : Outcome → Bool
symbol_waits (Next s) = is_idle s.mode
symbol_waits (Given l s) = is_colons l.kind
symbol_waits _ = false

-- behind a segment of a long string, another may yet come; the Bool says whether `''` counts for one
abbrev pub long_waits : Bool → Outcome → Bool
long_waits quotes (Next s) = is_idle s.mode || is_quoting s.mode
long_waits quotes (Given l s) = is_segment l.kind
long_waits quotes (Left l s) = quotes && is_quoted l.kind
long_waits quotes (Refused n e) = false

-- where the octet is used and ends nothing
abbrev pub OnNext : Outcome → (Known → Type 0) → Type 0
OnNext (Next s) f = f s
OnNext _ f = Unit {0}

-- what comes of each of the octets, up to the first token, passes
abbrev pub AtEach : (Outcome → Bool) → Place → List ℕ → Known → Type 0
AtEach passes p [] s = Unit {0}
AtEach passes p (o ∷ os) s = (passes (feed p s o) ≡ true) × OnNext (feed p s o) (λ k. AtEach passes p os k)
