-- The kind of a value, and which values are local symbol tables.
use Rattle.std.specs.Prelude.{ℕ, List, [], ◌∷◌, Option, Some, None, Bool, true, false, ◌&&◌, codes}
use Rattle.std.specs.Str.{bytes_eq}
use Rattle.ion_atoms.specs.declared.kind.Kind.{Kind}
use Rattle.ion_model.specs.Measures.{Layer}
use Rattle.ion_model.specs.declared.value.Payload.TheOpen.{Payload-F}
use Rattle.ion_model.specs.declared.value.Payload.TheViews.{out-Payload}
use Rattle.ion_model.specs.declared.value.Value.{Value}

-- the kind of one level of a payload
abbrev pub layer_kind : Layer → Kind
layer_kind (Payload-F.Null k) = k
layer_kind (Payload-F.Truth b) = Kind.Bool
layer_kind (Payload-F.Int z) = Kind.Int
layer_kind (Payload-F.Decimal d) = Kind.Decimal
layer_kind (Payload-F.Timestamp t) = Kind.Timestamp
layer_kind (Payload-F.Symbol s) = Kind.Symbol
layer_kind (Payload-F.Str s) = Kind.Str
layer_kind (Payload-F.Clob s) = Kind.Clob
layer_kind (Payload-F.Blob s) = Kind.Blob
layer_kind (Payload-F.List vs) = Kind.List
layer_kind (Payload-F.Sexp vs) = Kind.Sexp
layer_kind (Payload-F.Fields fs) = Kind.Fields

-- the kind of a value; a null has the kind that it is the null of
abbrev pub kind_of : Value → Kind
kind_of v = layer_kind (out-Payload v.payload)

-- whether the kind is that of structs
abbrev pub is_fields : Kind → Bool
is_fields Kind.Fields = true
is_fields _ = false

-- whether a symbol is the name of local symbol tables
abbrev pub names_table : Option (List ℕ) → Bool
names_table None = false
names_table (Some text) = bytes_eq text (codes "$ion_symbol_table")

-- the first annotation names tables, and the kind is that of structs
abbrev pub is_table_of : List (Option (List ℕ)) → Kind → Bool
is_table_of [] k = false
is_table_of (s ∷ ss) k = names_table s && is_fields k

-- whether a value is a local symbol table where it stands at the top level
abbrev pub is_table : Value → Bool
is_table v = is_table_of v.annotations (kind_of v)
