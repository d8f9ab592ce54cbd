-- What is written of worked values.
use Rattle.std.proofs.Common.{◌≡◌, List, [], ◌∷◌, Some, None, refl, ◌∙◌}
use Rattle.std.specs.Prelude.{codes}
use Rattle.ion_text_writer.specs.Names.{Field, Kind, Value, annotated, bare, field_of, symbol_text, text_of, value_text}
use Rattle.ion_symtab.specs.laws.WorkedNumbers.{in_2007, minus_zero, one_and_a_half}
use Rattle.ion_model.specs.declared.value.Payload.TheVariants as payloads
use Rattle.ion_model.specs.declared.value.Payload.TheViews as views
use Rattle.ion_spelling.specs.laws.Output.{text_layer}

-- 1. The values.

-- the symbol whose text is that of a version marker
abbrev pub marker_symbol : Value
marker_symbol = bare (payloads.Symbol (Some (codes "$ion_1_0")))

abbrev unknown_symbol : Value
unknown_symbol = bare (payloads.Symbol None)

-- a, a single quote and the control character 7
abbrev bell : Value
bell = bare (payloads.Str (97 ∷ 39 ∷ 7 ∷ []))

abbrev empty_symbol : Value
empty_symbol = bare (payloads.Symbol (Some []))

-- an operator and a word
abbrev operator_and_word : List Value
operator_and_word = bare (payloads.Symbol (Some (codes "+"))) ∷ bare (payloads.Symbol (Some (codes "b"))) ∷ []

abbrev list_items : List Value
list_items = bare (payloads.Null Kind.Int) ∷ bare (payloads.Sexp operator_and_word) ∷ []

-- the list of these, annotated with `a`
abbrev nested : Value
nested = annotated (Some (codes "a") ∷ []) (payloads.List list_items)

-- 1.5 by the name `a`
abbrev fields : List Field
fields = field_of (Some (codes "a")) (bare (payloads.Decimal one_and_a_half)) ∷ []

-- the worked values as one stream
abbrev pub worked : List Value
worked =
    marker_symbol
    ∷ bare (payloads.Decimal minus_zero)
    ∷ bare (payloads.Timestamp in_2007)
    ∷ unknown_symbol
    ∷ bell
    ∷ empty_symbol
    ∷ nested
    ∷ bare (payloads.Fields fields)
    ∷ bare (payloads.Clob (0 ∷ 34 ∷ 200 ∷ []))
    ∷ bare (payloads.Blob (1 ∷ 2 ∷ 3 ∷ 4 ∷ []))
    ∷ []

-- 2. Their texts.

marker_text : value_text marker_symbol ≡ codes "'$ion_1_0'"
unfolding symbol_text
marker_text = text_layer [] (payloads.Symbol (Some (codes "$ion_1_0"))) _ (views.outs-Symbol (Some (codes "$ion_1_0")))

zero_text : value_text (bare (payloads.Decimal minus_zero)) ≡ codes "-0d0"
unfolding Rattle.std.specs.Fmt.digits
zero_text = text_layer [] (payloads.Decimal minus_zero) _ (views.outs-Decimal minus_zero)

year_text : value_text (bare (payloads.Timestamp in_2007)) ≡ codes "2007T"
year_text = text_layer [] (payloads.Timestamp in_2007) _ (views.outs-Timestamp in_2007)

unknown_text : value_text unknown_symbol ≡ codes "$0"
unfolding symbol_text
unknown_text = text_layer [] (payloads.Symbol None) _ (views.outs-Symbol None)

bell_text : value_text bell ≡ codes "\"a'\\x07\""
bell_text = text_layer [] (payloads.Str (97 ∷ 39 ∷ 7 ∷ [])) _ (views.outs-Str (97 ∷ 39 ∷ 7 ∷ []))

empty_text : value_text empty_symbol ≡ codes "''"
unfolding symbol_text
empty_text = text_layer [] (payloads.Symbol (Some [])) _ (views.outs-Symbol (Some []))

operator_text : value_text (bare (payloads.Symbol (Some (codes "+")))) ≡ codes "'+'"
unfolding symbol_text
operator_text = text_layer [] (payloads.Symbol (Some (codes "+"))) _ (views.outs-Symbol (Some (codes "+")))

word_text : value_text (bare (payloads.Symbol (Some (codes "b")))) ≡ codes "b"
unfolding symbol_text
word_text = text_layer [] (payloads.Symbol (Some (codes "b"))) _ (views.outs-Symbol (Some (codes "b")))

null_int_text : value_text (bare (payloads.Null Kind.Int)) ≡ codes "null.int"
null_int_text = text_layer [] (payloads.Null Kind.Int) _ (views.outs-Null Kind.Int)

sexp_text : value_text (bare (payloads.Sexp operator_and_word)) ≡ codes "('+' b)"
sexp_text = text_layer [] (payloads.Sexp operator_and_word) _ (views.outs-Sexp operator_and_word) ∙ rw (operator_text, word_text) refl

nested_text : value_text nested ≡ codes "a::[null.int,('+' b)]"
unfolding symbol_text
nested_text = text_layer (Some (codes "a") ∷ []) (payloads.List list_items) _ (views.outs-List list_items) ∙ rw (null_int_text, sexp_text) refl

half_text : value_text (bare (payloads.Decimal one_and_a_half)) ≡ codes "15d-1"
unfolding Rattle.std.specs.Fmt.digits
half_text = text_layer [] (payloads.Decimal one_and_a_half) _ (views.outs-Decimal one_and_a_half)

struct_text : value_text (bare (payloads.Fields fields)) ≡ codes "{a:15d-1}"
unfolding symbol_text
struct_text = text_layer [] (payloads.Fields fields) _ (views.outs-Fields fields) ∙ rw half_text refl

clob_text : value_text (bare (payloads.Clob (0 ∷ 34 ∷ 200 ∷ []))) ≡ codes "{{\"\\x00\\\"\\xc8\"}}"
clob_text = text_layer [] (payloads.Clob (0 ∷ 34 ∷ 200 ∷ [])) _ (views.outs-Clob (0 ∷ 34 ∷ 200 ∷ []))

blob_text : value_text (bare (payloads.Blob (1 ∷ 2 ∷ 3 ∷ 4 ∷ []))) ≡ codes "{{AQIDBA==}}"
unfolding Rattle.base64.specs.Rfc4648.encode_symbols
blob_text = text_layer [] (payloads.Blob (1 ∷ 2 ∷ 3 ∷ 4 ∷ [])) _ (views.outs-Blob (1 ∷ 2 ∷ 3 ∷ 4 ∷ []))

-- the document of the worked values, a line for each
pub worked_text : text_of worked ≡ codes "'$ion_1_0'\n-0d0\n2007T\n$0\n\"a'\\x07\"\n''\na::[null.int,('+' b)]\n{a:15d-1}\n{{\"\\x00\\\"\\xc8\"}}\n{{AQIDBA==}}\n"
worked_text = rw (marker_text, zero_text, year_text, unknown_text, bell_text, empty_text, nested_text, struct_text, clob_text, blob_text) refl
