-- What a descriptor octet opens (Ion 1.0, "Ion Binary Encoding", typed value formats).
use Rattle.std.specs.Prelude.{ℕ, Bool, true, false, ◌==◌, if◌then◌else◌, Result, Ok, Err}
use Rattle.ion_binary.specs.Names.Below.{Descriptor, Follows, Form, Known, ListOrSexp, Malformed, Marker, Null, Opening, Reason, Refused, Scalar, Size, Sized, Truth, descriptor_of}

-- a scalar that no body without octets is
abbrev pub with_octets : Scalar → Size → Opening
with_octets scalar (Known n) = if n == 0 then Refused Malformed else Sized (Form.Scalar scalar) (Known n)
with_octets scalar Follows = Sized (Form.Scalar scalar) Follows

-- by type code
abbrev pub body_of : ℕ → Size → Opening
body_of code size =
    if code == 2 then Sized (Form.Scalar Scalar.Int) size
    else if code == 3 then with_octets Scalar.NegativeInt size
    else if code == 5 then Sized (Form.Scalar Scalar.Decimal) size
    else if code == 6 then with_octets Scalar.Timestamp size
    else if code == 7 then Sized (Form.Scalar Scalar.Symbol) size
    else if code == 8 then Sized (Form.Scalar Scalar.Str) size
    else if code == 9 then Sized (Form.Scalar Scalar.Clob) size
    else if code == 10 then Sized (Form.Scalar Scalar.Blob) size
    else if code == 11 then Sized (Form.ListOrSexp ListOrSexp.List) size
    else if code == 12 then Sized (Form.ListOrSexp ListOrSexp.Sexp) size
    else if code == 13 then Sized Form.Struct size
    else if code == 14 then Sized Form.Wrapper size
    else Refused Malformed

-- what a descriptor opens that was told apart, or why it opens nothing
abbrev pub opens : Result Descriptor Reason → Opening
opens (Err reason) = Refused reason
opens (Ok Descriptor.Marker) = Marker
opens (Ok (Descriptor.Null kind)) = Null kind
opens (Ok (Descriptor.Truth truth)) = Truth truth
opens (Ok (Descriptor.Pad size)) = Sized Form.Pad size
opens (Ok Descriptor.Ordered) = Sized Form.OrderedStruct Follows
opens (Ok (Descriptor.Body code size)) = body_of code size

-- what the octet opens where a value may begin
unfoldable pub opening_of : ℕ → Opening
opening_of octet = opens (descriptor_of octet)

-- the form is that of a pad
abbrev pub is_pad : Form → Bool
is_pad Form.Pad = true
is_pad _ = false

-- the form is that of a wrapper, which holds annotations and a value
abbrev pub is_wrapper : Form → Bool
is_wrapper Form.Wrapper = true
is_wrapper _ = false
