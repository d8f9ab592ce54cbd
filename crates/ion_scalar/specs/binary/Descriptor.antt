-- The table of descriptors (Ion 1.0, "Ion Binary Encoding", typed value formats): a row for each type code, by the length code.
use Rattle.std.specs.Prelude.{◌/◌, ◌%◌, ℕ, [], ◌∷◌, ◌==◌, ◌||◌, if◌then◌else◌, slice_index_or, true, false, Result, Ok, Err}
use Rattle.ion_scalar.specs.Names.Below.{Body, Descriptor, Float, Follows, Kind, Known, Malformed, Marker, Null, Ordered, Pad, Reason, Truth}
use Rattle.ion_scalar.specs.declared.descriptor.Size.{Size}

-- the kind of a type code: both those of ints are ints, one past 13 counts as a struct's
abbrev pub kind : ℕ → Kind
kind tag = slice_index_or (Kind.Null ∷ Kind.Bool ∷ Kind.Int ∷ Kind.Int ∷ Kind.Float ∷ Kind.Decimal ∷ Kind.Timestamp ∷ Kind.Symbol ∷ Kind.Str
    ∷ Kind.Clob ∷ Kind.Blob ∷ Kind.List ∷ Kind.Sexp ∷ Kind.Fields ∷ []) tag Kind.Fields

-- what a length code says: 14 that the length follows, any other the length itself
abbrev pub size : ℕ → Size
size length = if length == 14 then Follows else Known length

-- what a type code and a length code say: a body, a null, a pad, a truth, a marker, or why they are refused
abbrev pub typed : ℕ → ℕ → Result Descriptor Reason
typed tag length =
    if tag == 15 then Err Malformed
    else if tag == 14 then (if length == 0 then Ok Marker else if (length == 1) || (length == 2) || (length == 15) then Err Malformed else Ok
    (Body tag (size length)))
    else if length == 15 then Ok (Null (kind tag))
    else if tag == 0 then Ok (Pad (size length))
    else if tag == 1 then (if length == 0 then Ok (Truth false) else if length == 1 then Ok (Truth true) else Err Malformed)
    else if tag == 4 then (if (length == 0) || (length == 4) || (length == 8) then Err Float else Err Malformed)
    else if tag == 13 then (if length == 1 then Ok Ordered else Ok (Body tag (size length)))
    else Ok (Body tag (size length))

-- the type code in the high four bits, the length code in the low four
unfoldable pub descriptor_of : ℕ → Result Descriptor Reason
descriptor_of octet = typed (octet / 16) (octet % 16)
