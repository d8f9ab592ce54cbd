-- What the fields of a symbol table say (Ion 1.0, "Symbols").
use Rattle.std.specs.Prelude.{if◌then◌else◌, ℕ, ℤ, pos, negsuc, max, List, [], ◌∷◌, Option, None, Some, Bool, not, ◌&&◌, ◌==◌, Result, Ok, Err, codes, length}
use Rattle.std.specs.Str.{bytes_eq}
use Rattle.ion_symtab.specs.Names.Below.{Field, Layer, Payload-F, Reason, Value, out-Payload, values_of}

-- at most one value: two are a repeated field
abbrev pub at_most_one : List Value → Result (Option Value) Reason
at_most_one [] = Ok None
at_most_one (v ∷ []) = Ok (Some v)
at_most_one (v ∷ w ∷ vs) = Err Reason.RepeatedField

-- the value of the one field of this name
abbrev pub only : List ℕ → List Field → Result (Option Value) Reason
only name fields = at_most_one (values_of name fields)

-- the payload of a field that is there
abbrev pub payload_of : Option Value → Option Layer
payload_of None = None
payload_of (Some v) = Some (out-Payload v.payload)

-- the elements of a list; any other value has none
abbrev pub elements_in : Option Layer → List Value
elements_in (Some (Payload-F.List vs)) = vs
elements_in _ = []

-- the elements of a field that is a list; one that is absent or anything else has none
abbrev pub elements : Option Value → List Value
elements field = elements_in (payload_of field)

-- whether a shared table may have this name
abbrev pub is_table_name : List ℕ → Bool
is_table_name text = not (length text == 0) && not (bytes_eq text (codes "$ion"))

-- a string that may name a shared table
abbrev pub name_in : Option Layer → Option (List ℕ)
name_in (Some (Payload-F.Str text)) = if is_table_name text then Some text else None
name_in _ = None

-- the name that a field says, if it is a string that may name a shared table
abbrev pub table_name : Option Value → Option (List ℕ)
table_name field = name_in (payload_of field)

-- an int that isn't negative
abbrev pub natural : ℤ → Option ℕ
natural (pos n) = Some n
natural (negsuc n) = None

abbrev pub count_in : Option Layer → Option ℕ
count_in (Some (Payload-F.Int z)) = natural z
count_in _ = None

-- `max_id`, where it is an int that isn't negative
abbrev pub count_of : Option Value → Option ℕ
count_of field = count_in (payload_of field)

-- `version` is 1 where it is absent, null, no int, or below 1
abbrev pub at_least_one : Option ℕ → ℕ
at_least_one None = 1
at_least_one (Some n) = max n 1

-- the version that a field says, and 1 where it says none from 1 on
abbrev pub version_of : Option Value → ℕ
version_of field = at_least_one (count_of field)

-- an element of `symbols`: a string has its text, anything else unknown text
abbrev pub layer_symbol : Layer → Option (List ℕ)
layer_symbol (Payload-F.Str text) = Some text
layer_symbol _ = None

-- the text that an element of `symbols` has, if it is a string
abbrev pub symbol_of : Value → Option (List ℕ)
symbol_of v = layer_symbol (out-Payload v.payload)
