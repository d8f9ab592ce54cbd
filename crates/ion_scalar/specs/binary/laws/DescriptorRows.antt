-- The table of descriptors row by row, as the specification prints it (Ion 1.0, "Ion Binary Encoding", typed value formats).
use Rattle.std.specs.Prelude.{◌≡◌, ◌≢◌, ℕ, ◌+◌, ◌*◌, ◌<◌, ◌≤◌, Result, Ok, Err, true, false}
use Rattle.ion_scalar.specs.Names.{Body, Descriptor, Float, Follows, Kind, Known, Malformed, Marker, Null, Ordered, Pad, Reason, Truth, descriptor_of}

-- what the octet of a type code and a length code says
abbrev pub says : ℕ → ℕ → Result Descriptor Reason
says tag length = descriptor_of (tag * 16 + length)

-- a type whose length codes below 15 all have a body: its length stands in the octet, or behind it for length code 14
pub record HasBody (tag : ℕ) : Type 0 where
  pub known : (length : ℕ) → length < 14 → says tag length ≡ Ok (Body tag (Known length))
  pub follows : says tag 14 ≡ Ok (Body tag Follows)

-- what each type code and length code say
pub record IsTable : Type 0 where
  pub pad : (length : ℕ) → length < 14 → says 0 length ≡ Ok (Pad (Known length))
  pub long_pad : says 0 14 ≡ Ok (Pad Follows)
  pub null : says 0 15 ≡ Ok (Null Kind.Null)
  pub truth_false : says 1 0 ≡ Ok (Truth false)
  pub truth_true : says 1 1 ≡ Ok (Truth true)
  pub no_truth : (length : ℕ) → 2 ≤ length → length < 15 → says 1 length ≡ Err Malformed
  pub null_bool : says 1 15 ≡ Ok (Null Kind.Bool)
  pub int : HasBody 2
  pub null_int : says 2 15 ≡ Ok (Null Kind.Int)
  pub negative_int : HasBody 3
  pub null_negative_int : says 3 15 ≡ Ok (Null Kind.Int)
  pub float_none : says 4 0 ≡ Err Float
  pub float_four : says 4 4 ≡ Err Float
  pub float_eight : says 4 8 ≡ Err Float
  pub no_float : (length : ℕ) → length < 15 → length ≢ 0 → length ≢ 4 → length ≢ 8 → says 4 length ≡ Err Malformed
  pub null_float : says 4 15 ≡ Ok (Null Kind.Float)
  pub decimal : HasBody 5
  pub null_decimal : says 5 15 ≡ Ok (Null Kind.Decimal)
  pub timestamp : HasBody 6
  pub null_timestamp : says 6 15 ≡ Ok (Null Kind.Timestamp)
  pub symbol : HasBody 7
  pub null_symbol : says 7 15 ≡ Ok (Null Kind.Symbol)
  pub string : HasBody 8
  pub null_string : says 8 15 ≡ Ok (Null Kind.Str)
  pub clob : HasBody 9
  pub null_clob : says 9 15 ≡ Ok (Null Kind.Clob)
  pub blob : HasBody 10
  pub null_blob : says 10 15 ≡ Ok (Null Kind.Blob)
  pub list : HasBody 11
  pub null_list : says 11 15 ≡ Ok (Null Kind.List)
  pub sexp : HasBody 12
  pub null_sexp : says 12 15 ≡ Ok (Null Kind.Sexp)
  pub struct_empty : says 13 0 ≡ Ok (Body 13 (Known 0))
  pub struct_ordered : says 13 1 ≡ Ok Ordered
  pub struct : (length : ℕ) → 2 ≤ length → length < 14 → says 13 length ≡ Ok (Body 13 (Known length))
  pub long_struct : says 13 14 ≡ Ok (Body 13 Follows)
  pub null_struct : says 13 15 ≡ Ok (Null Kind.Fields)
  pub marker : says 14 0 ≡ Ok Marker
  pub short_wrapper_one : says 14 1 ≡ Err Malformed
  pub short_wrapper_two : says 14 2 ≡ Err Malformed
  pub wrapper : (length : ℕ) → 3 ≤ length → length < 14 → says 14 length ≡ Ok (Body 14 (Known length))
  pub long_wrapper : says 14 14 ≡ Ok (Body 14 Follows)
  pub null_wrapper : says 14 15 ≡ Err Malformed
  pub none : (length : ℕ) → length < 16 → says 15 length ≡ Err Malformed
