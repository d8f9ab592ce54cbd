-- What a visitor is told by its text, as a payload.
use Rattle.std.specs.Prelude.{ℕ, List, Result, Ok, Err, Some}
use Rattle.ion_model.specs.declared.value.Payload.{Payload}
use Rattle.ion_model.specs.declared.value.Payload.TheVariants as payloads
use Rattle.ion_scalar.specs.declared.number.Number.{Number}
use Rattle.ion_atoms.specs.Decimals.{DecimalParts}
use Rattle.ion_atoms.specs.Timestamps.{TimestampParts}
use Rattle.ion_atoms.specs.declared.kind.Kind.{Kind}
use Rattle.ion_atoms.specs.declared.refusal.Reason.{Reason}
use Rattle.ion_scalar.specs.binary.Decimal.{decimal_of_body}
use Rattle.ion_scalar.specs.binary.Timestamp.{timestamp_of_body}
use Rattle.ion_visiting.specs.declared.part.NumberBody.{NumberBody}
use Rattle.ion_visiting.specs.declared.part.Part.{Part}

-- a part
abbrev pub payload_of : Part → Payload
payload_of (Part.Null k) = payloads.Null k
payload_of (Part.Truth b) = payloads.Truth b
payload_of (Part.Symbol w) = payloads.Symbol (Some w.now)
payload_of (Part.Str w) = payloads.Str w.now
payload_of (Part.Clob w) = payloads.Clob w.now
payload_of (Part.Blob w) = payloads.Blob w.now

-- a number
abbrev pub number_payload : Number → Payload
number_payload (Number.Int z) = payloads.Int z
number_payload (Number.Decimal d) = payloads.Decimal d
number_payload (Number.Timestamp t) = payloads.Timestamp t

-- what was read as a decimal, or as a timestamp; null stands for what wasn't
abbrev pub decimal_read : Result DecimalParts Reason → Payload
decimal_read (Ok d) = payloads.Decimal d
decimal_read (Err r) = payloads.Null Kind.Null

abbrev pub timestamp_read : Result TimestampParts Reason → Payload
timestamp_read (Ok t) = payloads.Timestamp t
timestamp_read (Err r) = payloads.Null Kind.Null

-- a number by its body
abbrev pub decimal_payload : List ℕ → Payload
decimal_payload w = decimal_read (decimal_of_body w)

abbrev pub timestamp_payload : List ℕ → Payload
timestamp_payload w = timestamp_read (timestamp_of_body w)

-- a number as binary encodes it
abbrev pub body_payload : NumberBody → Payload
body_payload (NumberBody.Decimal w) = decimal_payload w.now
body_payload (NumberBody.Timestamp w) = timestamp_payload w.now
