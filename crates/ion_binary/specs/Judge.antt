-- What a scalar's body is, as a function of its octets.
use Rattle.std.specs.Prelude.{ℕ, pos, neg_ℤ, Bool, true, false, List, ◌==◌, if◌then◌else◌, Option, Result, Ok, Err}
use Rattle.std.specs.Str.{is_utf8}
use Rattle.ion_binary.specs.Names.Below.{BadUtf8, DecimalParts, Malformed, Payload, Reason, Scalar, Slot, TimestampParts, decimal_of_body, resolve, timestamp_of_body, uint_field}
use Rattle.ion_model.specs.declared.value.Payload.TheVariants as payloads
use Rattle.ion_visiting.specs.declared.part.NumberBody.{NumberBody}

-- an int of this magnitude; 0 has no sign
abbrev pub int_of : Bool → Result ℕ Reason → Result Payload Reason
int_of negative (Err e) = Err e
int_of false (Ok n) = Ok (payloads.Int (pos n))
int_of true (Ok n) = if n == 0 then Err Malformed else Ok (payloads.Int (neg_ℤ (pos n)))

-- the symbol that was looked up, or why there is none
abbrev pub as_symbol : Result (Option (List ℕ)) Reason → Result Payload Reason
as_symbol (Ok s) = Ok (payloads.Symbol s)
as_symbol (Err e) = Err e

-- the symbol of an id
abbrev pub symbol_of : List Slot → Result ℕ Reason → Result Payload Reason
symbol_of c (Err e) = Err e
symbol_of c (Ok id) = as_symbol (resolve c id)

-- the decimal that was read, or why it was refused
abbrev pub as_decimal : Result DecimalParts Reason → Result Payload Reason
as_decimal (Ok d) = Ok (payloads.Decimal d)
as_decimal (Err e) = Err e

-- the timestamp that was read, or why it was refused
abbrev pub as_timestamp : Result TimestampParts Reason → Result Payload Reason
as_timestamp (Ok t) = Ok (payloads.Timestamp t)
as_timestamp (Err e) = Err e

-- a decimal or a timestamp by its body
abbrev pub number_of : NumberBody → Result Payload Reason
number_of (NumberBody.Decimal w) = as_decimal (decimal_of_body w.now)
number_of (NumberBody.Timestamp w) = as_timestamp (timestamp_of_body w.now)

-- the string of these octets
abbrev pub text_of : List ℕ → Result Payload Reason
text_of body = if is_utf8 body then Ok (payloads.Str body) else Err BadUtf8

-- the scalar that a body is, or why it is none
unfoldable pub judge : List Slot → Scalar → List ℕ → Result Payload Reason
judge c Scalar.Int body = int_of false (uint_field body)
judge c Scalar.NegativeInt body = int_of true (uint_field body)
judge c Scalar.Decimal body = as_decimal (decimal_of_body body)
judge c Scalar.Timestamp body = as_timestamp (timestamp_of_body body)
judge c Scalar.Symbol body = symbol_of c (uint_field body)
judge c Scalar.Str body = text_of body
judge c Scalar.Clob body = Ok (payloads.Clob body)
judge c Scalar.Blob body = Ok (payloads.Blob body)
