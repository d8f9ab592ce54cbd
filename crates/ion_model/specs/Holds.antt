-- What a value holds of some sort: nothing where it is of another kind, or a null.
use Rattle.std.specs.Prelude.{ℕ, ℤ, List, [], ◌∷◌, Option, Some, None, Bool, if◌then◌else◌}
use Rattle.ion_model.specs.Names.{DecimalParts, Field, Layer, Payload-F, TimestampParts, Value, has_text}

-- of one level of a payload

-- the bool, where it is one
abbrev pub truth_in : Layer → Option Bool
truth_in (Payload-F.Truth b) = Some b
truth_in _ = None

-- the int, where it is one
abbrev pub int_in : Layer → Option ℤ
int_in (Payload-F.Int z) = Some z
int_in _ = None

-- the decimal, where it is one
abbrev pub decimal_in : Layer → Option DecimalParts
decimal_in (Payload-F.Decimal d) = Some d
decimal_in _ = None

-- the timestamp, where it is one
abbrev pub timestamp_in : Layer → Option TimestampParts
timestamp_in (Payload-F.Timestamp t) = Some t
timestamp_in _ = None

-- the symbol, of known text or not, where it is one
abbrev pub symbol_in : Layer → Option (Option (List ℕ))
symbol_in (Payload-F.Symbol s) = Some s
symbol_in _ = None

-- the text, where it is a string
abbrev pub text_in : Layer → Option (List ℕ)
text_in (Payload-F.Str s) = Some s
text_in _ = None

-- the octets, where it is a clob
abbrev pub clob_in : Layer → Option (List ℕ)
clob_in (Payload-F.Clob s) = Some s
clob_in _ = None

-- the octets, where it is a blob
abbrev pub blob_in : Layer → Option (List ℕ)
blob_in (Payload-F.Blob s) = Some s
blob_in _ = None

-- the items of a list or s-expression
abbrev pub items_in : Layer → Option (List Value)
items_in (Payload-F.List vs) = Some vs
items_in (Payload-F.Sexp vs) = Some vs
items_in _ = None

-- the fields of a struct
abbrev pub fields_in : Layer → Option (List Field)
fields_in (Payload-F.Fields fs) = Some fs
fields_in _ = None

-- the values of the fields of this name, in the order read
abbrev pub values_of : List ℕ → List Field → List Value
values_of name [] = []
values_of name (f ∷ fs) = if has_text name f.name then f.value ∷ values_of name fs else values_of name fs

-- the same of a payload, which has none where it is no struct
abbrev pub named_in : List ℕ → Layer → List Value
named_in name (Payload-F.Fields fs) = values_of name fs
named_in name _ = []
