-- What is written of worked streams.
use Rattle.std.proofs.Common.{◌≡◌, ℕ, Bool, true, false, List, [], ◌∷◌, ◌++◌, Some, refl, ap, ◌∙◌, map}
use Rattle.std.specs.Prelude.{codes}
use Rattle.std.specs.List.{flat_map}
use Rattle.ion_binary.specs.Names.{Field, Layer, Names, Payload, Value, annotated, bare, bin_from, bin_of, field_of, framed, id_of, layer_octets, layer_symbols, name_text, named_octets, opening, string_value, symbols_of, system_names, system_texts, table_octets, table_value, timestamp_octets, uint_octets, value_octets, with_names}
use Rattle.ion_symtab.specs.laws.WorkedNumbers.{in_2007, minus_zero, one_and_a_half}
use Rattle.ion_model.specs.declared.value.Payload.TheVariants as payloads
use Rattle.ion_model.specs.declared.value.Payload.TheViews as views
use Rattle.ion_scalar.specs.binary.Shifted.{moved}
use Rattle.ion_binary.specs.Output.{wrapped}
use Rattle.ion_binary.specs.laws.writing.Output.{octets-out, symbols-out}

-- 1. The values.

abbrev symbol_value : List ℕ → Value
symbol_value text = bare (payloads.Symbol (Some text))

abbrev value_a : Value
value_a = symbol_value (codes "a")

abbrev value_b : Value
value_b = symbol_value (codes "b")

abbrev worked_items : List Value
worked_items = value_a ∷ value_b ∷ value_a ∷ []

abbrev worked_list : Value
worked_list = bare (payloads.List worked_items)

-- 1.5 by the name `a`
abbrev fields : List Field
fields = field_of (Some (codes "a")) (bare (payloads.Decimal one_and_a_half)) ∷ []

abbrev struct_value : Value
struct_value = bare (payloads.Fields fields)

-- 2. Streams, and the octets of their documents: of no value, `name`, `a b a`, `[a,b,a]`, `2007T`, `-0.`, `{a:1.5}`.
abbrev pub worked : List (List Value × List ℕ)
worked =
    ([], 0xE0 ∷ 0x01 ∷ 0x00 ∷ 0xEA ∷ [])
    ∷ (symbol_value (codes "name") ∷ [], 0xE0 ∷ 0x01 ∷ 0x00 ∷ 0xEA ∷ 0x71 ∷ 0x04 ∷ [])
    ∷ (
      value_a ∷ value_b ∷ value_a ∷ [],
      0xE0 ∷ 0x01 ∷ 0x00 ∷ 0xEA
          ∷ 0xEA ∷ 0x81 ∷ 0x83 ∷ 0xD7 ∷ 0x86 ∷ 0x71 ∷ 0x03 ∷ 0x87 ∷ 0xB2 ∷ 0x81 ∷ 0x61 ∷ 0x71 ∷ 0x0A
          ∷ 0xEA ∷ 0x81 ∷ 0x83 ∷ 0xD7 ∷ 0x86 ∷ 0x71 ∷ 0x03 ∷ 0x87 ∷ 0xB2 ∷ 0x81 ∷ 0x62 ∷ 0x71 ∷ 0x0B
          ∷ 0x71 ∷ 0x0A ∷ [],
    )
    ∷ (
      worked_list ∷ [],
      0xE0 ∷ 0x01 ∷ 0x00 ∷ 0xEA
          ∷ 0xEC ∷ 0x81 ∷ 0x83 ∷ 0xD9 ∷ 0x86 ∷ 0x71 ∷ 0x03 ∷ 0x87 ∷ 0xB4 ∷ 0x81 ∷ 0x61 ∷ 0x81 ∷ 0x62
          ∷ 0xB6 ∷ 0x71 ∷ 0x0A ∷ 0x71 ∷ 0x0B ∷ 0x71 ∷ 0x0A ∷ [],
    )
    ∷ (bare (payloads.Timestamp in_2007) ∷ [], 0xE0 ∷ 0x01 ∷ 0x00 ∷ 0xEA ∷ 0x63 ∷ 0xC0 ∷ 0x0F ∷ 0xD7 ∷ [])
    ∷ (bare (payloads.Decimal minus_zero) ∷ [], 0xE0 ∷ 0x01 ∷ 0x00 ∷ 0xEA ∷ 0x52 ∷ 0x80 ∷ 0x80 ∷ [])
    ∷ (
      struct_value ∷ [],
      0xE0 ∷ 0x01 ∷ 0x00 ∷ 0xEA
          ∷ 0xEA ∷ 0x81 ∷ 0x83 ∷ 0xD7 ∷ 0x86 ∷ 0x71 ∷ 0x03 ∷ 0x87 ∷ 0xB2 ∷ 0x81 ∷ 0x61
          ∷ 0xD4 ∷ 0x8A ∷ 0x52 ∷ 0xC1 ∷ 0x0F ∷ [],
    )
    ∷ []

-- 3. A value by its one level, where it is known which.
symbols_row : (ss : Names) (p : Payload) (d : Layer) → views.out-Payload p ≡ d → symbols_of (annotated ss p) ≡ ss ++ layer_symbols d
symbols_row ss p d e = symbols-out (annotated ss p) ∙ ap (λ (x : Layer). ss ++ layer_symbols x) e

octets_row : (names ss : Names) (p : Payload) (d : Layer) → views.out-Payload p ≡ d → value_octets names (annotated ss p)
    ≡ wrapped names ss (layer_octets names d)
octets_row names ss p d e = octets-out names (annotated ss p) ∙ ap (λ (x : Layer). wrapped names ss (layer_octets names x)) e

text_symbols : (text : List ℕ) → symbols_of (symbol_value text) ≡ Some text ∷ []
text_symbols text = symbols_row [] (payloads.Symbol (Some text)) _ (views.outs-Symbol (Some text))

text_octets : (names : Names) (text : List ℕ) → value_octets names (symbol_value text) ≡ framed 7 (uint_octets (id_of names (Some text)))
text_octets names text = octets_row names [] (payloads.Symbol (Some text)) _ (views.outs-Symbol (Some text))

-- 4. A table by its names.
strings_octets : (names more : Names) → flat_map (value_octets names) (map string_value more) ≡ flat_map (λ t. framed 8 (name_text t)) more
strings_octets names [] = refl
strings_octets names (t ∷ more) = rw (octets_row names [] (payloads.Str (name_text t)) _ (views.outs-Str (name_text t)), strings_octets names more)

abbrev table_of : Names → Names → List ℕ
table_of names more =
    wrapped names (Some (codes "$ion_symbol_table") ∷ []) (framed 13
    (named_octets names (Some (codes "imports")) (framed 7 (uint_octets (id_of names (Some (codes "$ion_symbol_table")))))
    ++ (named_octets names (Some (codes "symbols")) (framed 11 (flat_map (λ t. framed 8 (name_text t)) more)) ++ [])))

table_row : (names more : Names) → value_octets names (table_value more) ≡ table_of names more
table_row names more = octets_row names _ _ _ (views.outs-Fields _) ∙ rw (
  text_octets names (codes "$ion_symbol_table"),
  octets_row names [] _ _ (views.outs-List (map string_value more)),
  strings_octets names more,
) refl

-- 5. One value of a stream: its symbols, the table before it, its octets, and what comes behind it.
value_row : (names : Names) (begun : Bool) (v : Value) (vs : List Value) (ss : Names) (table octets rest : List ℕ) → symbols_of v ≡ ss
    → table_octets names (with_names names ss) ≡ table → value_octets (with_names names ss) v ≡ octets
    → bin_from (record { names = with_names names ss; begun = true }) vs ≡ rest → bin_from (record { names = names; begun = begun }) (v ∷ vs)
    ≡ (opening begun ++ (table ++ octets)) ++ rest
value_row names begun v vs ss table octets rest symbols tables is behind = rw (symbols, tables, is, behind)

-- 6. The streams.

-- the names of a document in which `a`, and then `b`, was used first
abbrev with_a : Names
with_a = with_names system_names (Some (codes "a") ∷ [])

abbrev with_b : Names
with_b = with_names with_a (Some (codes "b") ∷ [])

none_row : bin_of [] ≡ 0xE0 ∷ 0x01 ∷ 0x00 ∷ 0xEA ∷ []
unfolding bin_of
none_row = refl

name_row : bin_of (symbol_value (codes "name") ∷ []) ≡ 0xE0 ∷ 0x01 ∷ 0x00 ∷ 0xEA ∷ 0x71 ∷ 0x04 ∷ []
unfolding bin_of system_names system_texts
name_row = value_row system_names false _ [] _ [] _ [] (text_symbols (codes "name")) refl (text_octets _ (codes "name")) refl

table_a : value_octets with_a (table_value (Some (codes "a") ∷ [])) ≡ 0xEA ∷ 0x81 ∷ 0x83 ∷ 0xD7 ∷ 0x86 ∷ 0x71 ∷ 0x03 ∷ 0x87 ∷ 0xB2 ∷ 0x81 ∷ 0x61 ∷ []
unfolding system_names system_texts
table_a = table_row with_a (Some (codes "a") ∷ [])

table_b : value_octets with_b (table_value (Some (codes "b") ∷ [])) ≡ 0xEA ∷ 0x81 ∷ 0x83 ∷ 0xD7 ∷ 0x86 ∷ 0x71 ∷ 0x03 ∷ 0x87 ∷ 0xB2 ∷ 0x81 ∷ 0x62 ∷ []
unfolding system_names system_texts
table_b = table_row with_b (Some (codes "b") ∷ [])

table_a_b : value_octets with_b (table_value (Some (codes "a") ∷ Some (codes "b") ∷ [])) ≡ 0xEC ∷ 0x81 ∷ 0x83 ∷ 0xD9 ∷ 0x86 ∷ 0x71 ∷ 0x03 ∷ 0x87 ∷ 0xB4 ∷ 0x81
    ∷ 0x61 ∷ 0x81 ∷ 0x62 ∷ []
unfolding system_names system_texts
table_a_b = table_row with_b (Some (codes "a") ∷ Some (codes "b") ∷ [])

third : bin_from (record { names = with_b; begun = true }) (value_a ∷ []) ≡ 0x71 ∷ 0x0A ∷ []
unfolding system_names system_texts
third = value_row with_b true value_a [] (Some (codes "a") ∷ []) [] (0x71 ∷ 0x0A ∷ []) [] (text_symbols (codes "a")) refl (text_octets _ (codes "a")) refl

second : bin_from (record { names = with_a; begun = true }) (value_b ∷ value_a ∷ []) ≡
    0xEA ∷ 0x81 ∷ 0x83 ∷ 0xD7 ∷ 0x86 ∷ 0x71 ∷ 0x03 ∷ 0x87 ∷ 0xB2 ∷ 0x81 ∷ 0x62 ∷ 0x71 ∷ 0x0B ∷ 0x71 ∷ 0x0A ∷ []
unfolding system_names system_texts
second = value_row with_a true value_b (value_a ∷ []) _ _ _ _ (text_symbols (codes "b")) table_b (text_octets _ (codes "b")) third

symbols_row_of : bin_of worked_items ≡
    0xE0 ∷ 0x01 ∷ 0x00 ∷ 0xEA
    ∷ 0xEA ∷ 0x81 ∷ 0x83 ∷ 0xD7 ∷ 0x86 ∷ 0x71 ∷ 0x03 ∷ 0x87 ∷ 0xB2 ∷ 0x81 ∷ 0x61 ∷ 0x71 ∷ 0x0A
    ∷ 0xEA ∷ 0x81 ∷ 0x83 ∷ 0xD7 ∷ 0x86 ∷ 0x71 ∷ 0x03 ∷ 0x87 ∷ 0xB2 ∷ 0x81 ∷ 0x62 ∷ 0x71 ∷ 0x0B
    ∷ 0x71 ∷ 0x0A ∷ []
unfolding bin_of system_names system_texts
symbols_row_of = value_row system_names false value_a (value_b ∷ value_a ∷ []) _ _ _ _ (text_symbols (codes "a")) table_a (text_octets _ (codes "a")) second

list_symbols : symbols_of worked_list ≡ Some (codes "a") ∷ Some (codes "b") ∷ Some (codes "a") ∷ []
list_symbols = symbols_row [] (payloads.List worked_items) _ (views.outs-List worked_items) ∙ rw (text_symbols (codes "a"), text_symbols (codes "b")) refl

list_octets : value_octets with_b worked_list ≡ 0xB6 ∷ 0x71 ∷ 0x0A ∷ 0x71 ∷ 0x0B ∷ 0x71 ∷ 0x0A ∷ []
unfolding system_names system_texts
list_octets = octets_row with_b [] _ _ (views.outs-List worked_items) ∙ rw (text_octets with_b (codes "a"), text_octets with_b (codes "b")) refl

list_row : bin_of (worked_list ∷ []) ≡
    0xE0 ∷ 0x01 ∷ 0x00 ∷ 0xEA
    ∷ 0xEC ∷ 0x81 ∷ 0x83 ∷ 0xD9 ∷ 0x86 ∷ 0x71 ∷ 0x03 ∷ 0x87 ∷ 0xB4 ∷ 0x81 ∷ 0x61 ∷ 0x81 ∷ 0x62
    ∷ 0xB6 ∷ 0x71 ∷ 0x0A ∷ 0x71 ∷ 0x0B ∷ 0x71 ∷ 0x0A ∷ []
unfolding bin_of system_names system_texts
list_row = value_row system_names false worked_list [] _ _ _ [] list_symbols table_a_b list_octets refl

year_row : bin_of (bare (payloads.Timestamp in_2007) ∷ []) ≡ 0xE0 ∷ 0x01 ∷ 0x00 ∷ 0xEA ∷ 0x63 ∷ 0xC0 ∷ 0x0F ∷ 0xD7 ∷ []
unfolding bin_of system_names system_texts timestamp_octets moved
year_row = value_row system_names false _ [] [] [] _ [] (symbols_row [] _ _ (views.outs-Timestamp in_2007)) refl
    (octets_row _ [] _ _ (views.outs-Timestamp in_2007)) refl

zero_row : bin_of (bare (payloads.Decimal minus_zero) ∷ []) ≡ 0xE0 ∷ 0x01 ∷ 0x00 ∷ 0xEA ∷ 0x52 ∷ 0x80 ∷ 0x80 ∷ []
unfolding bin_of system_names system_texts
zero_row = value_row system_names false _ [] [] [] _ [] (symbols_row [] _ _ (views.outs-Decimal minus_zero)) refl
    (octets_row _ [] _ _ (views.outs-Decimal minus_zero)) refl

half_symbols : symbols_of (bare (payloads.Decimal one_and_a_half)) ≡ []
half_symbols = symbols_row [] (payloads.Decimal one_and_a_half) _ (views.outs-Decimal one_and_a_half)

half_octets : (names : Names) → value_octets names (bare (payloads.Decimal one_and_a_half)) ≡ 0x52 ∷ 0xC1 ∷ 0x0F ∷ []
half_octets names = octets_row names [] (payloads.Decimal one_and_a_half) _ (views.outs-Decimal one_and_a_half)

struct_symbols : symbols_of struct_value ≡ Some (codes "a") ∷ []
struct_symbols = symbols_row [] (payloads.Fields fields) _ (views.outs-Fields fields) ∙ rw half_symbols refl

struct_octets : value_octets with_a struct_value ≡ 0xD4 ∷ 0x8A ∷ 0x52 ∷ 0xC1 ∷ 0x0F ∷ []
unfolding system_names system_texts
struct_octets = octets_row with_a [] (payloads.Fields fields) _ (views.outs-Fields fields) ∙ rw (half_octets with_a) refl

struct_row : bin_of (struct_value ∷ []) ≡
    0xE0 ∷ 0x01 ∷ 0x00 ∷ 0xEA
    ∷ 0xEA ∷ 0x81 ∷ 0x83 ∷ 0xD7 ∷ 0x86 ∷ 0x71 ∷ 0x03 ∷ 0x87 ∷ 0xB2 ∷ 0x81 ∷ 0x61
    ∷ 0xD4 ∷ 0x8A ∷ 0x52 ∷ 0xC1 ∷ 0x0F ∷ []
unfolding bin_of system_names system_texts
struct_row = value_row system_names false struct_value [] (Some (codes "a") ∷ []) _ _ [] struct_symbols table_a struct_octets refl

-- the documents of the worked streams have the octets that are shown
pub worked_binary : map (λ (row : List Value × List ℕ). bin_of row.0) worked ≡ map (λ (row : List Value × List ℕ). row.1) worked
worked_binary = rw (none_row, name_row, symbols_row_of, list_row, year_row, zero_row, struct_row) refl
