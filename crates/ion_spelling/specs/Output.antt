-- The one text document that is written for a stream of values (Ion 1.0, "Ion Text Encoding"): each value on a line of its own, in its
-- one spelling.
use Rattle.std.specs.Prelude.{ℕ, ◌≤◌, ◌+◌, ◌-◌, ◌/◌, ◌%◌, ◌==◌, Bool, true, false, not, ◌&&◌, ◌||◌, nat_le, nat_lt, List, [], ◌∷◌, ◌++◌, length, map, Option, None, Some, codes, if◌then◌else◌}
use Rattle.std.specs.List.{flat_map, list_all}
use Rattle.ion_spelling.specs.Names.Below.{Field, Kind, Layer, Limits, Number, Payload-F, Value, backslash, base64_of, carriage_return, delete, depth, digit_0, double_quote, fold-Value, is_letter, is_word_octet, kind_name, line_feed, lower_a, lower_n, lower_r, lower_t, number_text, single_quote, space, tab, underscore}
use Rattle.ion_spelling.specs.declared.quotes.Quotes.{Quotes}
use Rattle.ion_spelling.specs.Keywords.{is_keyword}

-- 1. Texts between quotes ("Strings", "Symbols", "Clobs"). A text is its octets in UTF-8, and a character from 80 on stands as it is.

-- those of strings, of symbols, and of clobs, which are ASCII alone
abbrev pub of_string : Quotes
of_string = record { delimiter = double_quote; ascii = false }

-- those of symbols, which are single
abbrev pub of_symbol : Quotes
of_symbol = record { delimiter = single_quote; ascii = false }

-- those of clobs, between which octets from 80 on are escaped
abbrev pub of_clob : Quotes
of_clob = record { delimiter = double_quote; ascii = true }

-- the letter behind a backslash that stands for an octet: a backslash, the delimiter, `n`, `r` or `t`; no letter stands for another
abbrev pub letter_for : ℕ → ℕ → Option ℕ
letter_for delimiter o =
    if (o == backslash) || (o == delimiter) then Some o
    else (if o == line_feed then Some lower_n
    else (if o == carriage_return then Some lower_r
    else (if o == tab then Some lower_t
    else None)))

-- `0` to `9`, `a` to `f`
abbrev pub hexadecimal_of : ℕ → ℕ
hexadecimal_of d = if nat_lt d 10 then digit_0 + d else lower_a + (d - 10)

-- `\x` and two digits
abbrev pub hexadecimal_escape : ℕ → List ℕ
hexadecimal_escape o = codes "\\x" ++ hexadecimal_of (o / 16) ∷ hexadecimal_of (o % 16) ∷ []

-- an octet without such a letter stands as it is from the space on, but for 7F and, in ASCII, those from 80 on
abbrev pub stands_raw : Bool → ℕ → Bool
stands_raw ascii o = nat_le space o && (not (o == delete) && not (ascii && nat_le 0x80 o))

-- no escape stands for the octet
abbrev pub is_raw : Quotes → ℕ → Bool
is_raw quotes o = not (o == backslash) && (not (o == quotes.delimiter) && stands_raw quotes.ascii o)

-- an octet by the letter that stands for it, or as it is, or in hexadecimal digits
abbrev pub escape_by : Bool → ℕ → Option ℕ → List ℕ
escape_by ascii o (Some letter) = codes "\\" ++ letter ∷ []
escape_by ascii o None = if stands_raw ascii o then o ∷ [] else hexadecimal_escape o

-- how an octet is written between these quotes
abbrev pub escape : Quotes → ℕ → List ℕ
escape quotes o = escape_by quotes.ascii o (letter_for quotes.delimiter o)

-- what stands between the quotes: the octets one behind the other, escaped where they must be
abbrev pub escaped_text : Quotes → List ℕ → List ℕ
escaped_text quotes text = flat_map (escape quotes) text

-- a text, or the octets of a clob, and the quotes
abbrev pub quoted : Quotes → List ℕ → List ℕ
quoted quotes text = (quotes.delimiter ∷ escaped_text quotes text) ++ quotes.delimiter ∷ []

-- 2. Symbols.

-- a letter or `_`
abbrev pub begins_identifier : ℕ → Bool
begins_identifier o = is_letter o || (o == underscore)

-- such, then also digits or `$`
abbrev pub is_identifier : List ℕ → Bool
is_identifier [] = false
is_identifier (o ∷ os) = begins_identifier o && list_all is_word_octet os

-- the text stands without quotes: such a word, but for `null`, `true`, `false` and `nan`
abbrev pub is_unquoted : List ℕ → Bool
is_unquoted w = is_identifier w && not (is_keyword w)

-- a symbol of known text: without quotes where it may stand so, else between them
abbrev pub known_text : List ℕ → List ℕ
known_text w = if is_unquoted w then w else quoted of_symbol w

-- a symbol, wherever it stands: as a value, an annotation or a field's name
unfoldable pub symbol_text : Option (List ℕ) → List ℕ
symbol_text None = codes "$0"
symbol_text (Some w) = known_text w

-- 3. Values.

-- a null of a kind: `null`, or `null.` and the name of the kind
abbrev pub null_text : Kind → List ℕ
null_text Kind.Null = codes "null"
null_text k = codes "null." ++ kind_name k

-- a boolean
abbrev pub truth_text : Bool → List ℕ
truth_text false = codes "false"
truth_text true = codes "true"

-- a clob: a text between quotes, between double braces
abbrev pub clob_text : List ℕ → List ℕ
clob_text octets = codes "{{" ++ quoted of_clob octets ++ codes "}}"

-- a blob: base64 between double braces
abbrev pub blob_text : List ℕ → List ℕ
blob_text octets = codes "{{" ++ base64_of octets ++ codes "}}"

-- annotations, each with `::`
abbrev pub notes_text : List (Option (List ℕ)) → List ℕ
notes_text ss = flat_map (λ s. symbol_text s ++ codes "::") ss

-- a field's name before the text of its value
abbrev pub named_text : Option (List ℕ) → List ℕ → List ℕ
named_text s w = symbol_text s ++ (codes ":" ++ w)

-- texts one behind the other, with something between
abbrev pub separated : List ℕ → List (List ℕ) → List ℕ
separated between [] = []
separated between (w ∷ ws) = w ++ flat_map (λ x. between ++ x) ws

-- texts with something between, before the first and behind the last
abbrev pub enclosed : List ℕ → List ℕ → List ℕ → List (List ℕ) → List ℕ
enclosed before between behind ws = (before ++ separated between ws) ++ behind

-- of one level, in which each value inside is its text already; numbers have the spelling of `ion_scalar`
abbrev pub text_step : Payload-F (List ℕ) (List ℕ) (List ℕ) → List ℕ
text_step (Payload-F.Null k) = null_text k
text_step (Payload-F.Truth b) = truth_text b
text_step (Payload-F.Int z) = number_text (Number.Int z)
text_step (Payload-F.Decimal d) = number_text (Number.Decimal d)
text_step (Payload-F.Timestamp t) = number_text (Number.Timestamp t)
text_step (Payload-F.Symbol s) = symbol_text s
text_step (Payload-F.Str text) = quoted of_string text
text_step (Payload-F.Clob octets) = clob_text octets
text_step (Payload-F.Blob octets) = blob_text octets
text_step (Payload-F.List vs) = enclosed (codes "[") (codes ",") (codes "]") vs
text_step (Payload-F.Sexp vs) = enclosed (codes "(") (codes " ") (codes ")") vs
text_step (Payload-F.Fields fs) = enclosed (codes "{") (codes ",") (codes "}") fs

-- the text of a value, its fields in the order in which they stand
unfoldable pub value_text : Value → List ℕ
value_text v = fold-Value (List ℕ) (List ℕ) (List ℕ) text_step (λ f. named_text f.name f.value) (λ v. notes_text v.annotations ++ v.payload) v

-- a field's name and the text of its value
abbrev pub field_text : Field → List ℕ
field_text f = named_text f.name (value_text f.value)

-- the text of one level
abbrev pub layer_text : Layer → List ℕ
layer_text (Payload-F.Null k) = null_text k
layer_text (Payload-F.Truth b) = truth_text b
layer_text (Payload-F.Int z) = number_text (Number.Int z)
layer_text (Payload-F.Decimal d) = number_text (Number.Decimal d)
layer_text (Payload-F.Timestamp t) = number_text (Number.Timestamp t)
layer_text (Payload-F.Symbol s) = symbol_text s
layer_text (Payload-F.Str text) = quoted of_string text
layer_text (Payload-F.Clob octets) = clob_text octets
layer_text (Payload-F.Blob octets) = blob_text octets
layer_text (Payload-F.List vs) = enclosed (codes "[") (codes ",") (codes "]") (map value_text vs)
layer_text (Payload-F.Sexp vs) = enclosed (codes "(") (codes " ") (codes ")") (map value_text vs)
layer_text (Payload-F.Fields fs) = enclosed (codes "{") (codes ",") (codes "}") (map field_text fs)

-- 4. Streams.

-- what a value adds to the document: its text and LF
abbrev pub adds : Value → List ℕ
adds v = value_text v ++ codes "\n"

-- the document of the stream
abbrev pub text_of : List Value → List ℕ
text_of s = flat_map adds s

-- 5. Limits.

-- a value as it is written is within the limits
pub record ValueFits (l : Limits) (v : Value) : Type 0 where
  pub long : length (value_text v) ≤ l.item
  pub deep : depth v ≤ l.depth

-- each value is
abbrev pub FitsIn : Limits → List Value → Type 0
FitsIn l [] = Unit {0}
FitsIn l (v ∷ vs) = ValueFits l v × FitsIn l vs
