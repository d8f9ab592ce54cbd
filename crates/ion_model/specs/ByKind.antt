-- When two payloads are equivalent, kind by kind.
use Rattle.std.specs.Prelude.{Bool, false, nat_eq}
use Rattle.std.specs.Bool.{beq}
use Rattle.std.specs.Ordering.{int_eq}
use lib.Pointwise.{pointwise}
use Rattle.ion_model.specs.Names.{Layer, Payload-F, Value, decimal_same, fields_same, kind_rank, symbol_same, text_same, timestamp_same}

-- Nulls of one kind, scalars of one kind that agree in every part, lists and s-expressions of which E tells place by place, structs of
-- whose fields each stands as often in the one as in the other. No others are.
abbrev pub payload_same : (Value → Value → Bool) → Layer → Layer → Bool
payload_same E (Payload-F.Null j) (Payload-F.Null k) = nat_eq (kind_rank j) (kind_rank k)
payload_same E (Payload-F.Truth a) (Payload-F.Truth b) = beq a b
payload_same E (Payload-F.Int y) (Payload-F.Int z) = int_eq y z
payload_same E (Payload-F.Decimal d) (Payload-F.Decimal e) = decimal_same d e
payload_same E (Payload-F.Timestamp s) (Payload-F.Timestamp t) = timestamp_same s t
payload_same E (Payload-F.Symbol s) (Payload-F.Symbol t) = symbol_same s t
payload_same E (Payload-F.Str s) (Payload-F.Str t) = text_same s t
payload_same E (Payload-F.Clob s) (Payload-F.Clob t) = text_same s t
payload_same E (Payload-F.Blob s) (Payload-F.Blob t) = text_same s t
payload_same E (Payload-F.List vs) (Payload-F.List ws) = pointwise E vs ws
payload_same E (Payload-F.Sexp vs) (Payload-F.Sexp ws) = pointwise E vs ws
payload_same E (Payload-F.Fields fs) (Payload-F.Fields gs) = fields_same E fs gs
payload_same E _ _ = false
