-- What an octet may do in each mode: the actions of the scanner's table without its tests, each row once. A law that holds for each of
-- them holds for the table (`laws/ByRows`).
use Rattle.std.specs.Prelude.{ℕ, suc, ◌-◌, Bool, true, false, ◌&&◌, if◌then◌else◌, List, [], ◌∷◌, nat_le}
use Rattle.std.specs.List.{list_all}
use Rattle.ion_tokens.specs.Names.{Action, Digits, Ending, Keep, Lob, Mark, Mode, Reason, Style, TokenKind, Within, add, before, close, close_long, give, go, is_long, line_feed, refused, run_ending, slash}

-- the numbers in an action: the octet or the character that is kept, and what may come next of a character
pub record Taken : Type 0 where
  pub octet : ℕ
  pub left : ℕ
  pub least : ℕ
  pub most : ℕ

-- at the quote of a text of one quote or of three
abbrev pub at_quote : Style → Taken → Action
at_quote s t = if is_long s then add (Mode.Text s Within.OneQuote) t.octet else close s

-- at any other octet of a text
abbrev pub inside : Style → Taken → List Action
inside s t =
    go (Mode.Text s Within.Escape) ∷ add (Mode.Text s Within.AfterReturn) line_feed ∷ add (Mode.Text s Within.Plain) t.octet ∷ refused
    ∷ Action.Refuse Reason.BadUtf8 ∷ add (Mode.Text s (Within.Utf8 t.left t.least t.most)) t.octet ∷ []

-- in the digits of an escape, at the last one or another
abbrev pub digit_rows : Bool → Style → Digits → ℕ → Taken → List Action
digit_rows last s d left t =
    Action.Refuse Reason.BadEscape
    ∷ (if last then add (Mode.Text s Within.Plain) t.octet ∷ Action.Go (Mode.Text s Within.Plain) (Keep.Character t.octet)
    ∷ go (Mode.Text s (Within.HighSurrogate t.octet)) ∷ []
    else go (Mode.Text s (Within.Hexadecimal d (left - 1) t.octet)) ∷ [])

-- in a quoted text; the Bool says whether an escape's last digit comes
abbrev pub text_rows : Bool → Style → Within → Taken → List Action
text_rows last s Within.Plain t = at_quote s t ∷ inside s t
text_rows last s Within.AfterReturn t = at_quote s t ∷ go (Mode.Text s Within.Plain) ∷ inside s t
text_rows last s Within.OneQuote t = at_quote s t ∷ add (Mode.Text s Within.TwoQuotes) t.octet ∷ inside s t
text_rows last s Within.TwoQuotes t = at_quote s t ∷ close_long s ∷ inside s t
text_rows last s (Within.Utf8 left least most) t =
    Action.Refuse Reason.BadUtf8 ∷ add (Mode.Text s Within.Plain) t.octet ∷ add (Mode.Text s (Within.Utf8 t.left t.least t.most)) t.octet ∷ []
text_rows last s Within.Escape t =
    go (Mode.Text s Within.Plain) ∷ go (Mode.Text s Within.AfterReturn) ∷ go (Mode.Text s (Within.Hexadecimal Digits.Octet 2 0))
    ∷ go (Mode.Text s (Within.Hexadecimal Digits.Unit 4 0)) ∷ go (Mode.Text s (Within.Hexadecimal Digits.Scalar 8 0))
    ∷ add (Mode.Text s Within.Plain) t.octet ∷ Action.Refuse Reason.BadEscape ∷ []
text_rows last s (Within.Hexadecimal d left n) t = digit_rows last s d left t
text_rows last s (Within.HighSurrogate h) t = Action.Refuse Reason.BadEscape ∷ go (Mode.Text s (Within.HighSurrogateEscape h)) ∷ []
text_rows last s (Within.HighSurrogateEscape h) t = Action.Refuse Reason.BadEscape ∷ go (Mode.Text s (Within.Hexadecimal (Digits.LowSurrogate h) 4 0)) ∷ []

-- in a blob or a clob
abbrev pub lob_rows : Lob → Taken → List Action
lob_rows Lob.Start t =
    Action.EndBlob ∷ add (Mode.Lob Lob.Base64) t.octet ∷ Action.Refuse Reason.BadBase64 ∷ go (Mode.Lob Lob.Start)
    ∷ go (Mode.Text Style.ShortClob Within.Plain) ∷ go (Mode.Lob Lob.StartQuote) ∷ []
lob_rows Lob.StartQuote t = refused ∷ go (Mode.Lob Lob.StartQuotes) ∷ []
lob_rows Lob.StartQuotes t = refused ∷ go (Mode.Text Style.LongClob Within.Plain) ∷ []
lob_rows Lob.Base64 t = Action.EndBlob ∷ add (Mode.Lob Lob.Base64) t.octet ∷ Action.Refuse Reason.BadBase64 ∷ go (Mode.Lob Lob.Base64) ∷ []
lob_rows Lob.BlobClose t = refused ∷ Action.Give TokenKind.Blob Keep.Nothing ∷ []
lob_rows Lob.AfterShort t = refused ∷ go (Mode.Lob Lob.AfterShort) ∷ go (Mode.Lob Lob.ClobClose) ∷ []
lob_rows Lob.AfterLong t = refused ∷ go (Mode.Lob Lob.AfterLong) ∷ go (Mode.Lob Lob.ClobClose) ∷ go (Mode.Lob Lob.AfterQuote) ∷ []
lob_rows Lob.AfterQuote t = refused ∷ go (Mode.Lob Lob.AfterQuotes) ∷ []
lob_rows Lob.AfterQuotes t = refused ∷ go (Mode.Text Style.LongClob Within.Plain) ∷ []
lob_rows Lob.ClobClose t = refused ∷ Action.Give TokenKind.Clob Keep.Nothing ∷ []

-- in a blank
abbrev pub blank_rows : Taken → List Action
blank_rows t =
    go Mode.Blank ∷ add Mode.Word t.octet ∷ go Mode.Slash ∷ go (Mode.Text Style.ShortString Within.Plain) ∷ go Mode.Quote
    ∷ give Mark.Comma ∷ give Mark.FieldsClose ∷ go Mode.Colon ∷ refused ∷ add Mode.Number t.octet ∷ go Mode.Brace
    ∷ give Mark.ListOpen ∷ give Mark.ListClose ∷ give Mark.SexpOpen ∷ give Mark.SexpClose
    ∷ add (Mode.Operator Ending.LoneMinus) t.octet ∷ add (Mode.Operator Ending.Plus) t.octet ∷ add (Mode.Operator Ending.Other) t.octet ∷ []

-- what stands in an s-expression alone
abbrev pub in_sexp : Bool → List Action → List Action
in_sexp sexp rows = if sexp then rows else []

-- behind a run of operator characters
abbrev pub operator_rows : Taken → List Action
operator_rows t =
    add Mode.Number t.octet ∷ Action.Refuse Reason.Ambiguous ∷ before TokenKind.Operator ∷ refused ∷ go (Mode.Infinity 1) ∷ go Mode.OperatorSlash
    ∷ add (Mode.Operator (run_ending t.octet)) t.octet ∷ []

-- behind a sign and so many letters of `inf`; the Bool says whether in an s-expression
abbrev pub infinity_rows : Bool → ℕ → List Action
infinity_rows sexp letters = go (Mode.Infinity (suc letters)) ∷ Action.Refuse Reason.Float ∷ refused ∷ in_sexp sexp (Action.Split letters ∷ [])

-- The first Bool says whether the place is an s-expression, the second whether an escape's last digit comes.
abbrev pub rows : Bool → Bool → Mode → Taken → List Action
rows sexp last Mode.Blank t = blank_rows t
rows sexp last Mode.Slash t =
    go Mode.LineComment ∷ go Mode.BlockComment ∷ refused ∷ in_sexp sexp (Action.Go (Mode.Operator (run_ending t.octet)) (Keep.Two slash t.octet)
    ∷ Action.Before TokenKind.Operator (Keep.One slash) Mode.Blank ∷ [])
rows sexp last Mode.LineComment t = go Mode.Blank ∷ go Mode.LineComment ∷ []
rows sexp last Mode.BlockComment t = go Mode.BlockCommentStar ∷ go Mode.BlockComment ∷ []
rows sexp last Mode.BlockCommentStar t = go Mode.Blank ∷ go Mode.BlockCommentStar ∷ go Mode.BlockComment ∷ []
rows sexp last Mode.Colon t = give Mark.Colons ∷ before (TokenKind.Mark Mark.Colon) ∷ []
rows sexp last Mode.Word t = add Mode.Word t.octet ∷ Action.EndWord ∷ []
rows sexp last Mode.KindName t = add Mode.KindName t.octet ∷ before TokenKind.KindName ∷ []
rows sexp last Mode.Number t = before TokenKind.Number ∷ go Mode.NumberSlash ∷ add Mode.Number t.octet ∷ []
rows sexp last Mode.NumberSlash t =
    Action.Before TokenKind.Number Keep.Nothing Mode.Slash ∷ Action.Before TokenKind.Number (Keep.One slash) Mode.Blank
    ∷ Action.Go Mode.Number (Keep.Two slash t.octet) ∷ []
rows sexp last (Mode.Operator e) t = operator_rows t
rows sexp last Mode.OperatorSlash t =
    Action.Before TokenKind.Operator Keep.Nothing Mode.Slash ∷ Action.Go (Mode.Operator (run_ending t.octet)) (Keep.Two slash t.octet)
    ∷ Action.Before TokenKind.Operator (Keep.One slash) Mode.Blank ∷ []
rows sexp last (Mode.Infinity letters) t = infinity_rows sexp letters
rows sexp last Mode.Quote t = go Mode.Quotes ∷ inside Style.QuotedSymbol t
rows sexp last Mode.Quotes t = go (Mode.Text Style.LongString Within.Plain) ∷ before TokenKind.QuotedSymbol ∷ []
rows sexp last (Mode.Text s w) t = text_rows last s w t
rows sexp last Mode.Brace t = go (Mode.Lob Lob.Start) ∷ before (TokenKind.Mark Mark.FieldsOpen) ∷ []
rows sexp last (Mode.Lob l) t = lob_rows l t

-- the last digit of an escape comes
abbrev pub is_last : Mode → Bool
is_last (Mode.Text s (Within.Hexadecimal d left n)) = nat_le left 1
is_last _ = false

-- the parts of a mode that few tests look at
pub record Parts : Type 0 where
  pub ending : Ending
  pub digits : Digits
  pub first : ℕ
  pub second : ℕ
  pub third : ℕ

-- the modes outside quoted texts and lobs
abbrev pub plain_modes : Parts → List Mode
plain_modes c =
    Mode.Blank ∷ Mode.Slash ∷ Mode.LineComment ∷ Mode.BlockComment ∷ Mode.BlockCommentStar ∷ Mode.Colon ∷ Mode.Word ∷ Mode.KindName
    ∷ Mode.Number ∷ Mode.NumberSlash ∷ Mode.Operator c.ending ∷ Mode.OperatorSlash ∷ Mode.Infinity c.first ∷ Mode.Quote ∷ Mode.Quotes
    ∷ Mode.Brace ∷ []

-- the states of a quoted text
abbrev pub withins : Parts → List Within
withins c =
    Within.Plain ∷ Within.AfterReturn ∷ Within.OneQuote ∷ Within.TwoQuotes ∷ Within.Utf8 c.first c.second c.third ∷ Within.Escape
    ∷ Within.Hexadecimal c.digits c.first c.second ∷ Within.HighSurrogate c.first ∷ Within.HighSurrogateEscape c.first ∷ []

-- the sorts of quoted texts
abbrev pub all_styles : List Style
all_styles = Style.ShortString ∷ Style.QuotedSymbol ∷ Style.LongString ∷ Style.ShortClob ∷ Style.LongClob ∷ []

-- the states of a blob or a clob
abbrev pub all_lobs : List Lob
all_lobs =
    Lob.Start ∷ Lob.StartQuote ∷ Lob.StartQuotes ∷ Lob.Base64 ∷ Lob.BlobClose ∷ Lob.AfterShort ∷ Lob.AfterLong ∷ Lob.AfterQuote
    ∷ Lob.AfterQuotes ∷ Lob.ClobClose ∷ []

-- each mode with such parts passes the test
abbrev pub all_modes : (Mode → Bool) → Parts → Bool
all_modes f c =
    list_all f (plain_modes c) && (list_all (λ s. list_all (λ w. f (Mode.Text s w)) (withins c)) all_styles && list_all (λ l. f (Mode.Lob l)) all_lobs)

-- each row of a mode passes, in an s-expression or not
abbrev pub place_rows : (Bool → Mode → Action → Bool) → Taken → Mode → Bool → Bool
place_rows test t m sexp = list_all (λ last. list_all (test sexp m) (rows sexp last m t)) (true ∷ false ∷ [])

-- each row of a mode passes, both in an s-expression and elsewhere
abbrev pub mode_rows : (Bool → Mode → Action → Bool) → Taken → Mode → Bool
mode_rows test t m = list_all (place_rows test t m) (true ∷ false ∷ [])

-- so does each row of the table
abbrev pub all_rows : (Bool → Mode → Action → Bool) → Parts → Taken → Bool
all_rows test c t = all_modes (mode_rows test t) c
