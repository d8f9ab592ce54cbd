-- The scanner's table: what an octet does in each mode (Ion 1.0, "Ion Text Encoding" and its grammar).
use Rattle.std.specs.Prelude.{ℕ, ◌+◌, ◌-◌, ◌*◌, ◌==◌, Bool, true, false, ◌&&◌, ◌||◌, not, ◌%◌, if◌then◌else◌, nat_le, nat_lt, Option, Some, None}
use lib.Utf8.{scalar}
use Rattle.ion_tokens.specs.Names.Below.{Action, Digits, End, Ending, Keep, Lob, Mark, Mode, Place, Reason, Style, TokenKind, Within}
use Rattle.ion_tokens.specs.Ascii.{asterisk, backslash, carriage_return, close_brace, close_bracket, close_parenthesis, comma, delete, double_quote, form_feed, line_feed, lower_f, lower_i, lower_n, lower_u, lower_x, minus, open_brace, open_bracket, open_parenthesis, plus, single_quote, slash, space, tab, upper_u, vertical_tab}
use Rattle.ion_tokens.specs.Ascii as ascii
use Rattle.ion_tokens.specs.Octets.{begins_word, escaped, hexadecimal_digit, is_base64, is_digit, is_line_end, is_operator_octet, is_stop, is_white, is_word_octet}
pub use Rattle.ion_tokens.specs.Places.{is_sexp, is_name}
pub use Rattle.ion_tokens.specs.Styles.{is_long, is_clob, quote_of}

-- the octet is used, and nothing is kept of it
abbrev pub go : Mode → Action
go m = Action.Go m Keep.Nothing

-- the octet is used and kept
abbrev pub add : Mode → ℕ → Action
add m o = Action.Go m (Keep.One o)

-- no document has the octet there
abbrev pub refused : Action
refused = Action.Refuse Reason.Unexpected

-- a token ended before the octet, and a blank may begin there
abbrev pub before : TokenKind → Action
before k = Action.Before k Keep.Nothing Mode.Blank

-- the octet is a mark, or the last of one
abbrev pub give : Mark → Action
give m = Action.Give (TokenKind.Mark m) Keep.Nothing

-- how a run of two or more ends, by its last octet
abbrev pub run_ending : ℕ → Ending
run_ending o = if o == plus then Ending.Plus else (if o == minus then Ending.Minus else Ending.Other)

-- what begins a value and no field name
abbrev pub begins_value : Place → ℕ → Action
begins_value p o =
    if is_digit o then add Mode.Number o
    else (if o == open_brace then go Mode.Brace
    else (if o == open_bracket then give Mark.ListOpen
    else (if o == close_bracket then give Mark.ListClose
    else (if o == open_parenthesis then give Mark.SexpOpen
    else (if o == close_parenthesis then give Mark.SexpClose
    else (if o == minus then add (Mode.Operator Ending.LoneMinus) o
    else (if o == plus then add (Mode.Operator Ending.Plus) o
    else (if is_sexp p && is_operator_octet o then add (Mode.Operator Ending.Other) o
    else refused))))))))

-- a token begins, or the blank goes on; colon says whether the token before may have a colon behind it
abbrev pub in_blank : Place → Bool → ℕ → Action
in_blank p colon o =
    if is_white o then go Mode.Blank
    else (if begins_word o then add Mode.Word o
    else (if o == slash then go Mode.Slash
    else (if o == double_quote then go (Mode.Text Style.ShortString Within.Plain)
    else (if o == single_quote then go Mode.Quote
    else (if o == comma then give Mark.Comma
    else (if o == close_brace then give Mark.FieldsClose
    else (if o == ascii.colon then (if colon then go Mode.Colon else refused)
    else (if is_name p then refused
    else begins_value p o))))))))

-- behind a / that is part of no token yet
abbrev pub in_slash : Place → ℕ → Action
in_slash p o =
    if o == slash then go Mode.LineComment
    else (if o == asterisk then go Mode.BlockComment
    else (if not (is_sexp p) then refused
    else (if is_operator_octet o then Action.Go (Mode.Operator (run_ending o)) (Keep.Two slash o)
    else Action.Before TokenKind.Operator (Keep.One slash) Mode.Blank)))

-- behind a * in a block comment
abbrev pub in_block_star : ℕ → Action
in_block_star o =
    if o == slash then go Mode.Blank
    else (if o == asterisk then go Mode.BlockCommentStar
    else go Mode.BlockComment)

-- behind one colon
abbrev pub in_colon : ℕ → Action
in_colon o = if o == ascii.colon then give Mark.Colons else before (TokenKind.Mark Mark.Colon)

-- in a word
abbrev pub in_word : ℕ → Action
in_word o = if is_word_octet o then add Mode.Word o else Action.EndWord

-- in the name behind `null.`
abbrev pub in_kind_name : ℕ → Action
in_kind_name o = if is_word_octet o then add Mode.KindName o else before TokenKind.KindName

-- a digit behind a run
abbrev pub digit_behind : Place → Ending → ℕ → Action
digit_behind p Ending.LoneMinus o = add Mode.Number o
digit_behind p Ending.Minus o = Action.Refuse Reason.Ambiguous
digit_behind p Ending.Plus o = if is_sexp p then before TokenKind.Operator else refused
digit_behind p Ending.Other o = before TokenKind.Operator

-- a run that ends in no sign
abbrev pub is_other : Ending → Bool
is_other Ending.Other = true
is_other _ = false

-- behind a run, which outside an s-expression is a sign
abbrev pub in_operator : Place → Ending → ℕ → Action
in_operator p e o =
    if is_digit o then digit_behind p e o
    else (if (o == lower_i) && not (is_other e) then go (Mode.Infinity 1)
    else (if not (is_sexp p) then refused
    else (if o == slash then go Mode.OperatorSlash
    else (if is_operator_octet o then add (Mode.Operator (run_ending o)) o
    else before TokenKind.Operator))))

-- behind a run and a / that isn't kept
abbrev pub in_operator_slash : ℕ → Action
in_operator_slash o =
    if (o == slash) || (o == asterisk) then Action.Before TokenKind.Operator Keep.Nothing Mode.Slash
    else (if is_operator_octet o then Action.Go (Mode.Operator (run_ending o)) (Keep.Two slash o)
    else Action.Before TokenKind.Operator (Keep.One slash) Mode.Blank)

-- behind a sign and `i`, `in` or `inf`
abbrev pub in_infinity : Place → ℕ → ℕ → Action
in_infinity p letters o =
    if (letters == 1) && (o == lower_n) then go (Mode.Infinity 2)
    else (if (letters == 2) && (o == lower_f) then go (Mode.Infinity 3)
    else (if (letters == 3) && not (is_word_octet o) then Action.Refuse Reason.Float
    else (if is_sexp p then Action.Split letters
    else refused)))

-- in a number
abbrev pub in_number : ℕ → Action
in_number o =
    if is_stop o then before TokenKind.Number
    else (if o == slash then go Mode.NumberSlash
    else add Mode.Number o)

-- a comment ends the number before its /, which was taken up
abbrev pub in_number_slash : ℕ → Action
in_number_slash o =
    if (o == slash) || (o == asterisk) then Action.Before TokenKind.Number Keep.Nothing Mode.Slash
    else (if is_stop o then Action.Before TokenKind.Number (Keep.One slash) Mode.Blank
    else Action.Go Mode.Number (Keep.Two slash o))

-- the first octet of a character beyond ASCII
abbrev pub lead : Style → ℕ → Action
lead s o =
    if nat_lt o 0xc2 || nat_lt 0xf4 o then Action.Refuse Reason.BadUtf8
    else (if nat_lt o 0xe0 then add (Mode.Text s (Within.Utf8 1 0x80 0xbf)) o
    else (if nat_lt o 0xf0 then add (Mode.Text s (Within.Utf8 2 (if o == 0xe0 then 0xa0 else 0x80) (if o == 0xed then 0x9f else 0xbf))) o
    else add (Mode.Text s (Within.Utf8 3 (if o == 0xf0 then 0x90 else 0x80) (if o == 0xf4 then 0x8f else 0xbf))) o))

-- the quote that ends a text of one quote
abbrev pub close : Style → Action
close Style.ShortString = Action.Give TokenKind.ShortString Keep.Nothing
close Style.ShortClob = go (Mode.Lob Lob.AfterShort)
close _ = Action.Give TokenKind.QuotedSymbol Keep.Nothing

-- the third quote that ends a segment; the first two were kept
abbrev pub close_long : Style → Action
close_long Style.LongClob = Action.Go (Mode.Lob Lob.AfterLong) Keep.DropQuotes
close_long _ = Action.Give TokenKind.LongString Keep.DropQuotes

-- an ASCII character that stands for itself in every style
abbrev pub stands : ℕ → Bool
stands o = (o == tab) || (o == vertical_tab) || (o == form_feed) || (nat_le space o && nat_le o delete)

-- an octet that stands for itself, or begins a character, an escape or the close
abbrev pub raw : Style → ℕ → Action
raw s o =
    if o == backslash then go (Mode.Text s Within.Escape)
    else (if o == quote_of s then (if is_long s then add (Mode.Text s Within.OneQuote) o else close s)
    else (if is_long s && (o == carriage_return) then add (Mode.Text s Within.AfterReturn) line_feed
    else (if stands o || (is_long s && (o == line_feed)) then add (Mode.Text s Within.Plain) o
    else (if nat_lt o 128 || is_clob s then refused
    else lead s o))))

-- a further octet of a character
abbrev pub in_utf8 : Style → ℕ → ℕ → ℕ → ℕ → Action
in_utf8 s left least most o =
    if nat_lt o least || nat_lt most o then Action.Refuse Reason.BadUtf8
    else (if nat_le left 1 then add (Mode.Text s Within.Plain) o
    else add (Mode.Text s (Within.Utf8 (left - 1) 0x80 0xbf)) o)

-- the octet that a letter behind a backslash means, if it means one
abbrev pub meant : Style → Option ℕ → Action
meant s None = Action.Refuse Reason.BadEscape
meant s (Some m) = add (Mode.Text s Within.Plain) m

-- behind a backslash
abbrev pub in_escape : Style → ℕ → Action
in_escape s o =
    if o == line_feed then go (Mode.Text s Within.Plain)
    else (if o == carriage_return then go (Mode.Text s Within.AfterReturn)
    else (if o == lower_x then go (Mode.Text s (Within.Hexadecimal Digits.Octet 2 0))
    else (if (o == lower_u) && not (is_clob s) then go (Mode.Text s (Within.Hexadecimal Digits.Unit 4 0))
    else (if (o == upper_u) && not (is_clob s) then go (Mode.Text s (Within.Hexadecimal Digits.Scalar 8 0))
    else meant s (escaped o)))))

-- one more digit; from 0x110000 on the number only has to stay too great
abbrev pub grow : ℕ → ℕ → ℕ
grow n d = if nat_lt n 0x110000 then n * 16 + d else n

-- a high surrogate
abbrev pub is_high : ℕ → Bool
is_high n = nat_le 0xd800 n && nat_le n 0xdbff

-- a low surrogate
abbrev pub is_low : ℕ → Bool
is_low n = nat_le 0xdc00 n && nat_le n 0xdfff

-- the character of a number, where it has one
abbrev pub character : Style → ℕ → Action
character s n = if scalar n then Action.Go (Mode.Text s Within.Plain) (Keep.Character n) else Action.Refuse Reason.BadEscape

-- behind the last digit of an escape
abbrev pub after_digits : Style → Digits → ℕ → Action
after_digits s Digits.Octet n = if is_clob s then add (Mode.Text s Within.Plain) (n % 256) else character s n
after_digits s Digits.Unit n = if is_high n then go (Mode.Text s (Within.HighSurrogate n)) else character s n
after_digits s Digits.Scalar n = character s n
after_digits s (Digits.LowSurrogate high) n =
    if is_high high && is_low n then character s (0x10000 + (high - 0xd800) * 1024 + (n - 0xdc00))
    else Action.Refuse Reason.BadEscape

-- one of the digits of an escape, where it is a digit; the last one ends the escape
abbrev pub with_digit : Style → Digits → ℕ → ℕ → Option ℕ → Action
with_digit s d left n None = Action.Refuse Reason.BadEscape
with_digit s d left n (Some digit) =
    if nat_le left 1 then after_digits s d (grow n digit)
    else go (Mode.Text s (Within.Hexadecimal d (left - 1) (grow n digit)))

-- in the digits of an escape
abbrev pub in_hexadecimal : Style → Digits → ℕ → ℕ → ℕ → Action
in_hexadecimal s d left n o = with_digit s d left n (hexadecimal_digit o)

-- in a quoted text
abbrev pub in_text : Style → Within → ℕ → Action
in_text s Within.Plain o = raw s o
in_text s Within.AfterReturn o = if o == line_feed then go (Mode.Text s Within.Plain) else raw s o
in_text s Within.OneQuote o = if o == single_quote then add (Mode.Text s Within.TwoQuotes) o else raw s o
in_text s Within.TwoQuotes o = if o == single_quote then close_long s else raw s o
in_text s (Within.Utf8 left least most) o = in_utf8 s left least most o
in_text s Within.Escape o = in_escape s o
in_text s (Within.Hexadecimal d left n) o = in_hexadecimal s d left n o
in_text s (Within.HighSurrogate h) o = if o == backslash then go (Mode.Text s (Within.HighSurrogateEscape h)) else Action.Refuse Reason.BadEscape
in_text s (Within.HighSurrogateEscape h) o =
    if o == lower_u then go (Mode.Text s (Within.Hexadecimal (Digits.LowSurrogate h) 4 0)) else Action.Refuse Reason.BadEscape

-- one of the quotes that must be three
abbrev pub third_quote : ℕ → Mode → Action
third_quote o m = if o == single_quote then go m else refused

-- the second } of a lob's close
abbrev pub second_brace : ℕ → TokenKind → Action
second_brace o k = if o == close_brace then Action.Give k Keep.Nothing else refused

-- an octet of a blob's content, or its first brace
abbrev pub in_blob : ℕ → Action
in_blob o = if o == close_brace then Action.EndBlob else (if is_base64 o then add (Mode.Lob Lob.Base64) o else Action.Refuse Reason.BadBase64)

-- behind {{
abbrev pub lob_start : ℕ → Action
lob_start o =
    if is_white o then go (Mode.Lob Lob.Start)
    else (if o == double_quote then go (Mode.Text Style.ShortClob Within.Plain)
    else (if o == single_quote then go (Mode.Lob Lob.StartQuote)
    else in_blob o))

-- behind the text of a short clob
abbrev pub after_short : ℕ → Action
after_short o =
    if is_white o then go (Mode.Lob Lob.AfterShort)
    else (if o == close_brace then go (Mode.Lob Lob.ClobClose)
    else refused)

-- behind a segment of a long clob
abbrev pub after_long : ℕ → Action
after_long o =
    if is_white o then go (Mode.Lob Lob.AfterLong)
    else (if o == close_brace then go (Mode.Lob Lob.ClobClose)
    else third_quote o (Mode.Lob Lob.AfterQuote))

-- in a blob or a clob
abbrev pub in_lob : Lob → ℕ → Action
in_lob Lob.Start o = lob_start o
in_lob Lob.StartQuote o = third_quote o (Mode.Lob Lob.StartQuotes)
in_lob Lob.StartQuotes o = third_quote o (Mode.Text Style.LongClob Within.Plain)
in_lob Lob.Base64 o = if is_white o then go (Mode.Lob Lob.Base64) else in_blob o
in_lob Lob.BlobClose o = second_brace o TokenKind.Blob
in_lob Lob.AfterShort o = after_short o
in_lob Lob.AfterLong o = after_long o
in_lob Lob.AfterQuote o = third_quote o (Mode.Lob Lob.AfterQuotes)
in_lob Lob.AfterQuotes o = third_quote o (Mode.Text Style.LongClob Within.Plain)
in_lob Lob.ClobClose o = second_brace o TokenKind.Clob

-- behind one `'`
abbrev pub in_quote : ℕ → Action
in_quote o = if o == single_quote then go Mode.Quotes else raw Style.QuotedSymbol o

-- behind '', the symbol of empty text unless a third quote opens a long string
abbrev pub in_quotes : ℕ → Action
in_quotes o = if o == single_quote then go (Mode.Text Style.LongString Within.Plain) else before TokenKind.QuotedSymbol

-- behind one `{`
abbrev pub in_brace : ℕ → Action
in_brace o = if o == open_brace then go (Mode.Lob Lob.Start) else before (TokenKind.Mark Mark.FieldsOpen)

-- what an octet does
abbrev pub next : Place → Bool → Mode → ℕ → Action
next p colon Mode.Blank o = in_blank p colon o
next p colon Mode.Slash o = in_slash p o
next p colon Mode.LineComment o = go (if is_line_end o then Mode.Blank else Mode.LineComment)
next p colon Mode.BlockComment o = go (if o == asterisk then Mode.BlockCommentStar else Mode.BlockComment)
next p colon Mode.BlockCommentStar o = in_block_star o
next p colon Mode.Colon o = in_colon o
next p colon Mode.Word o = in_word o
next p colon Mode.KindName o = in_kind_name o
next p colon Mode.Number o = in_number o
next p colon Mode.NumberSlash o = in_number_slash o
next p colon (Mode.Operator e) o = in_operator p e o
next p colon Mode.OperatorSlash o = in_operator_slash o
next p colon (Mode.Infinity letters) o = in_infinity p letters o
next p colon Mode.Quote o = in_quote o
next p colon Mode.Quotes o = in_quotes o
next p colon (Mode.Text s w) o = in_text s w o
next p colon Mode.Brace o = in_brace o
next p colon (Mode.Lob l) o = in_lob l o

-- outside s-expressions there are no operators
abbrev pub operator_end : Place → Keep → End
operator_end p k = if is_sexp p then End.Token TokenKind.Operator k else End.Refuse Reason.Incomplete

-- what the end of the input does
abbrev pub end_of : Place → Mode → End
end_of p Mode.Blank = End.Blank
end_of p Mode.LineComment = End.Blank
end_of p Mode.Slash = operator_end p (Keep.One slash)
end_of p Mode.OperatorSlash = operator_end p (Keep.One slash)
end_of p (Mode.Operator _) = operator_end p Keep.Nothing
end_of p Mode.Colon = End.Token (TokenKind.Mark Mark.Colon) Keep.Nothing
end_of p Mode.Word = End.Token TokenKind.Word Keep.Nothing
end_of p Mode.KindName = End.Token TokenKind.KindName Keep.Nothing
end_of p Mode.Number = End.Token TokenKind.Number Keep.Nothing
end_of p Mode.NumberSlash = End.Token TokenKind.Number (Keep.One slash)
end_of p Mode.Quotes = End.Token TokenKind.QuotedSymbol Keep.Nothing
end_of p Mode.Brace = End.Token (TokenKind.Mark Mark.FieldsOpen) Keep.Nothing
end_of p (Mode.Infinity letters) = End.Refuse (if letters == 3 then Reason.Float else Reason.Incomplete)
end_of p _ = End.Refuse Reason.Incomplete
