-- The descriptor and the length of a body, by type codes and length codes (Ion 1.0, "Ion Binary Encoding", typed value formats): the type code is the
-- high four bits of the descriptor, the length code the low four.
use Rattle.std.specs.Prelude.{◌≡◌, ◌≢◌, ◌⊎◌, ℕ, ◌+◌, ◌*◌, ◌<◌, ◌≤◌, List, [], ◌∷◌}
use Rattle.ion_binary.specs.Names.Below.{Form, Kind, ListOrSexp, Scalar, VarUInt}

-- the type code by which a form is told
abbrev pub type_code : Form → ℕ
type_code Form.Pad = 0
type_code (Form.Scalar Scalar.Int) = 2
type_code (Form.Scalar Scalar.NegativeInt) = 3
type_code (Form.Scalar Scalar.Decimal) = 5
type_code (Form.Scalar Scalar.Timestamp) = 6
type_code (Form.Scalar Scalar.Symbol) = 7
type_code (Form.Scalar Scalar.Str) = 8
type_code (Form.Scalar Scalar.Clob) = 9
type_code (Form.Scalar Scalar.Blob) = 10
type_code (Form.ListOrSexp ListOrSexp.List) = 11
type_code (Form.ListOrSexp ListOrSexp.Sexp) = 12
type_code Form.Struct = 13
type_code Form.OrderedStruct = 13
type_code Form.Wrapper = 14

-- the kind of the values with such a body
abbrev pub scalar_kind : Scalar → Kind
scalar_kind Scalar.Int = Kind.Int
scalar_kind Scalar.NegativeInt = Kind.Int
scalar_kind Scalar.Decimal = Kind.Decimal
scalar_kind Scalar.Timestamp = Kind.Timestamp
scalar_kind Scalar.Symbol = Kind.Symbol
scalar_kind Scalar.Str = Kind.Str
scalar_kind Scalar.Clob = Kind.Clob
scalar_kind Scalar.Blob = Kind.Blob

-- the length code behind which the length stands as a VarUInt; 0xD1, a struct with length code 1, says that its fields are in order
abbrev pub long_code : Form → ℕ
long_code Form.OrderedStruct = 1
long_code _ = 14

-- the lengths that are length codes themselves, where they are below 14
abbrev pub IsBodyLength : Form → ℕ → Type 0
IsBodyLength (Form.Scalar Scalar.NegativeInt) n = 0 < n
IsBodyLength (Form.Scalar Scalar.Timestamp) n = 0 < n
IsBodyLength Form.Struct n = n ≢ 1
IsBodyLength Form.OrderedStruct n = ⊥
IsBodyLength Form.Wrapper n = 3 ≤ n
IsBodyLength _ n = Unit {0}

-- these octets are the descriptor and the length of a body of n octets: n is the length code, or stands behind the descriptor as a VarUInt
abbrev pub IsHeader : Form → ℕ → List ℕ → Type 0
IsHeader form n octets =
    ((n < 14) × IsBodyLength form n × (octets ≡ (16 * type_code form + n) ∷ []))
    ⊎ ((length : List ℕ) × VarUInt length n × (octets ≡ (16 * type_code form + long_code form) ∷ length))
