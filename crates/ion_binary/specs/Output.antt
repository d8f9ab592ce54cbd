-- The one binary document that is written for a stream of values (Ion 1.0, "Ion Binary Encoding" and "Symbols").
use Rattle.std.specs.Prelude.{if◌then◌else◌, ◌<◌, ◌≤◌, ℕ, suc, ℤ, pos, int_lt, unsigned_abs, ◌+◌, ◌*◌, Bool, true, false, nat_lt, List, [], ◌∷◌, ◌++◌, length, drop, map, Option, None, Some, codes}
use Rattle.std.specs.List.{flat_map}
use Rattle.ion_binary.specs.Names.Below.{Field, Kind, Layer, Limits, Payload-F, Value, annotated, bare, decimal_octets, depth, field_of, fold-Value, greatest_id, timestamp_octets, uint_octets, var_uint_octets}
use Rattle.ion_model.specs.declared.value.Payload.TheVariants as payloads
use Rattle.ion_binary.specs.Grammar.{the_marker}
pub use Rattle.ion_names.specs.Ids.{Names, id_of, with_name, with_names}
unfoldable pub use Rattle.ion_names.specs.Ids.{system_names}

-- 1. Symbols.

-- of one level, in which each value inside is its symbols already
abbrev pub symbols_step : Payload-F Names Names Names → Names
symbols_step (Payload-F.Symbol s) = s ∷ []
symbols_step (Payload-F.List vs) = flat_map (λ ss. ss) vs
symbols_step (Payload-F.Sexp vs) = flat_map (λ ss. ss) vs
symbols_step (Payload-F.Fields fs) = flat_map (λ ss. ss) fs
symbols_step _ = []

-- the symbols of a value in the order of their use: its annotations, then its payload, a field's name before its value
unfoldable pub symbols_of : Value → Names
symbols_of v = fold-Value Names Names Names symbols_step (λ f. f.name ∷ f.value) (λ v. v.annotations ++ v.payload) v

-- the name of a field, and the symbols of its value
abbrev pub field_symbols : Field → Names
field_symbols f = f.name ∷ symbols_of f.value

-- the symbols of one level
abbrev pub layer_symbols : Layer → Names
layer_symbols (Payload-F.Symbol s) = s ∷ []
layer_symbols (Payload-F.List vs) = flat_map symbols_of vs
layer_symbols (Payload-F.Sexp vs) = flat_map symbols_of vs
layer_symbols (Payload-F.Fields fs) = flat_map field_symbols fs
layer_symbols _ = []

-- 2. Octets.

-- a descriptor and a length: the type code, and the length in the fewest octets
abbrev pub header : ℕ → ℕ → List ℕ
header code n = if nat_lt n 14 then (16 * code + n) ∷ [] else (16 * code + 14) ∷ var_uint_octets n

-- a body behind its descriptor and its length
abbrev pub framed : ℕ → List ℕ → List ℕ
framed code body = header code (length body) ++ body

-- octets behind their number
abbrev pub with_count : List ℕ → List ℕ
with_count w = var_uint_octets (length w) ++ w

-- the octet of a null of this kind
abbrev pub null_octet : Kind → ℕ
null_octet Kind.Null = 0x0F
null_octet Kind.Bool = 0x1F
null_octet Kind.Int = 0x2F
null_octet Kind.Float = 0x4F
null_octet Kind.Decimal = 0x5F
null_octet Kind.Timestamp = 0x6F
null_octet Kind.Symbol = 0x7F
null_octet Kind.Str = 0x8F
null_octet Kind.Clob = 0x9F
null_octet Kind.Blob = 0xAF
null_octet Kind.List = 0xBF
null_octet Kind.Sexp = 0xCF
null_octet Kind.Fields = 0xDF

-- the octet of a bool
abbrev pub truth_octet : Bool → ℕ
truth_octet false = 0x10
truth_octet true = 0x11

-- an int is its magnitude; the type code has the sign
abbrev pub whole_octets : ℤ → List ℕ
whole_octets z = framed (if int_lt z (pos 0) then 3 else 2) (uint_octets (unsigned_abs z))

-- the ids of annotations
abbrev pub ids_octets : Names → List (Option (List ℕ)) → List ℕ
ids_octets names ss = flat_map (λ s. var_uint_octets (id_of names s)) ss

-- annotations before the octets of a payload: a wrapper, or nothing where there are none
abbrev pub wrapped : Names → List (Option (List ℕ)) → List ℕ → List ℕ
wrapped names [] w = w
wrapped names (s ∷ ss) w = framed 14 (with_count (ids_octets names (s ∷ ss)) ++ w)

-- the id of a field's name before the octets of its value
abbrev pub named_octets : Names → Option (List ℕ) → List ℕ → List ℕ
named_octets names s w = var_uint_octets (id_of names s) ++ w

-- of one level, by the octets of the values and of the fields inside
abbrev pub octets_by : {P F V : Type 0} → Names → (V → List ℕ) → (F → List ℕ) → Payload-F P F V → List ℕ
octets_by names value field (Payload-F.Null k) = null_octet k ∷ []
octets_by names value field (Payload-F.Truth b) = truth_octet b ∷ []
octets_by names value field (Payload-F.Int z) = whole_octets z
octets_by names value field (Payload-F.Decimal d) = framed 5 (decimal_octets d)
octets_by names value field (Payload-F.Timestamp t) = framed 6 (timestamp_octets t)
octets_by names value field (Payload-F.Symbol s) = framed 7 (uint_octets (id_of names s))
octets_by names value field (Payload-F.Str text) = framed 8 text
octets_by names value field (Payload-F.Clob body) = framed 9 body
octets_by names value field (Payload-F.Blob body) = framed 10 body
octets_by names value field (Payload-F.List vs) = framed 11 (flat_map value vs)
octets_by names value field (Payload-F.Sexp vs) = framed 12 (flat_map value vs)
octets_by names value field (Payload-F.Fields fs) = framed 13 (flat_map field fs)

-- of one level, in which each value inside is its octets already
abbrev pub octets_step : Names → Payload-F (List ℕ) (List ℕ) (List ℕ) → List ℕ
octets_step names d = octets_by names (λ w. w) (λ w. w) d

-- the octets of a value whose symbols have these ids
unfoldable pub value_octets : Names → Value → List ℕ
value_octets names v = fold-Value (List ℕ) (List ℕ) (List ℕ) (octets_step names) (λ f. named_octets names f.name f.value)
    (λ v. wrapped names v.annotations v.payload) v

-- the id of a field's name, and the octets of its value
abbrev pub field_octets : Names → Field → List ℕ
field_octets names f = named_octets names f.name (value_octets names f.value)

-- the octets of one level
abbrev pub layer_octets : Names → Layer → List ℕ
layer_octets names d = octets_by names (value_octets names) (field_octets names) d

-- 3. Tables ("Local Symbol Tables").

-- a name as an element of `symbols`
abbrev pub name_text : Option (List ℕ) → List ℕ
name_text None = []
name_text (Some t) = t

-- a name as a string, which is empty for unknown text
abbrev pub string_value : Option (List ℕ) → Value
string_value s = bare (payloads.Str (name_text s))

-- the local symbol table that appends these names
abbrev pub table_value : Names → Value
table_value names =
    annotated (Some (codes "$ion_symbol_table") ∷ []) (payloads.Fields (
    field_of (Some (codes "imports")) (bare (payloads.Symbol (Some (codes "$ion_symbol_table"))))
    ∷ field_of (Some (codes "symbols")) (bare (payloads.List (map string_value names)))
    ∷ []))

-- the table of the names from an id on; nothing where there are none
abbrev pub table_from : ℕ → Names → List ℕ
table_from first names = if nat_lt first (length names) then value_octets names (table_value (drop first names)) else []

-- the table that makes the names old the names new; nothing where no name is new
abbrev pub table_octets : Names → Names → List ℕ
table_octets old new = table_from (length old) new

-- 4. Streams.

-- what the rest of a document depends on: the names, and whether the marker is out
pub record Progress : Type 0 where
  pub names : Names
  pub begun : Bool

-- a marker where none is out
abbrev pub opening : Bool → List ℕ
opening true = []
opening false = the_marker

-- the names behind a value
abbrev pub names_after : Names → Value → Names
names_after names v = with_names names (symbols_of v)

-- what a value adds to the document
abbrev pub adds : Progress → Value → List ℕ
adds p v =
    let names = names_after p.names v in
    opening p.begun ++ (table_octets p.names names ++ value_octets names v)

-- what the rest depends on behind a value
abbrev pub after : Progress → Value → Progress
after p v = record { names = names_after p.names v; begun = true }

-- what the values add, and the end
abbrev pub bin_from : Progress → List Value → List ℕ
bin_from p [] = opening p.begun
bin_from p (v ∷ vs) = adds p v ++ bin_from (after p v) vs

-- what a document depends on from its beginning
abbrev pub nothing_yet : Progress
nothing_yet = record { names = system_names; begun = false }

-- the document of the stream
unfoldable pub bin_of : List Value → List ℕ
bin_of s = bin_from nothing_yet s

-- 5. Limits.

-- a value and the table before it are within the limits, and so are the ids
pub record ValueFits (l : Limits) (names : Names) (v : Value) : Type 0 where
  pub ids : length (names_after names v) ≤ suc greatest_id
  pub table : length (table_octets names (names_after names v)) ≤ l.item
  pub table_deep : length names < length (names_after names v) → 2 ≤ l.depth
  pub value : length (value_octets (names_after names v) v) ≤ l.item
  pub value_deep : depth v ≤ l.depth

-- each value, behind these names
abbrev pub FitBehind : Limits → Names → List Value → Type 0
FitBehind l names [] = Unit {0}
FitBehind l names (v ∷ vs) = ValueFits l names v × FitBehind l (names_after names v) vs

-- a document of these values is within the limits
abbrev pub FitsIn : Limits → List Value → Type 0
FitsIn l s = FitBehind l system_names s
