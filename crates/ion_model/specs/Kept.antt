-- Which values the types keep: texts are UTF-8, numbers are in range, and what lobs hold are octets.
use Rattle.std.specs.Prelude.{ℕ, ℤ, Bool, List, [], ◌∷◌, Option}
use Rattle.std.specs.Str.{IsUtf8}
use Rattle.ion_model.specs.Names.{DecimalParts, Field, IsDecimal, IsTimestamp, Kind, Layer, Payload, Payload-F, TimestampParts, Value, annotated, field_of}
use Rattle.ion_atoms.specs.Octets.{AreOctets}
use Rattle.ion_atoms.specs.Ranges.{IsWhole}
pub use Rattle.ion_model.specs.Symbols.{IsText, AreTexts}
use Rattle.ion_model.specs.declared.value.Payload.TheVariants as payloads

mutual
  -- a value that is kept
  pub data IsKept : Value → Type 0 where
    kept : (ss : List (Option (List ℕ))) (p : Payload) → AreTexts ss → KeptPayload p → IsKept (annotated ss p)

  -- a payload that is kept, with all that is inside
  pub data KeptPayload : Payload → Type 0 where
    kept_null : (k : Kind) → KeptPayload (payloads.Null k)
    kept_truth : (b : Bool) → KeptPayload (payloads.Truth b)
    kept_int : (z : ℤ) → IsWhole z → KeptPayload (payloads.Int z)
    kept_decimal : (d : DecimalParts) → IsDecimal d → KeptPayload (payloads.Decimal d)
    kept_timestamp : (t : TimestampParts) → IsTimestamp t → KeptPayload (payloads.Timestamp t)
    kept_symbol : (s : Option (List ℕ)) → IsText s → KeptPayload (payloads.Symbol s)
    kept_string : (text : List ℕ) → IsUtf8 text → KeptPayload (payloads.Str text)
    kept_clob : (body : List ℕ) → AreOctets body → KeptPayload (payloads.Clob body)
    kept_blob : (body : List ℕ) → AreOctets body → KeptPayload (payloads.Blob body)
    kept_list : (vs : List Value) → KeptItems vs → KeptPayload (payloads.List vs)
    kept_sexp : (vs : List Value) → KeptItems vs → KeptPayload (payloads.Sexp vs)
    kept_fields : (ms : List Field) → KeptFields ms → KeptPayload (payloads.Fields ms)

  -- the items of a list or s-expression, each of which is kept
  pub data KeptItems : List Value → Type 0 where
    no_items : KeptItems []
    an_item : (v : Value) (vs : List Value) → IsKept v → KeptItems vs → KeptItems (v ∷ vs)

  -- the fields of a struct, each with a name that is UTF-8 or unknown and a value that is kept
  pub data KeptFields : List Field → Type 0 where
    no_fields : KeptFields []
    a_field : (s : Option (List ℕ)) (v : Value) (ms : List Field) → IsText s → IsKept v → KeptFields ms → KeptFields (field_of s v ∷ ms)

-- values each of which is kept
abbrev pub AreKept : List Value → Type 0
AreKept [] = Unit {0}
AreKept (v ∷ vs) = IsKept v × AreKept vs

-- so a scalar, seen as one level; nothing is asked of what is inside a list, an s-expression or a struct
abbrev pub KeptScalar : Layer → Type 0
KeptScalar (Payload-F.Int z) = IsWhole z
KeptScalar (Payload-F.Decimal d) = IsDecimal d
KeptScalar (Payload-F.Timestamp t) = IsTimestamp t
KeptScalar (Payload-F.Symbol s) = IsText s
KeptScalar (Payload-F.Str text) = IsUtf8 text
KeptScalar (Payload-F.Clob body) = AreOctets body
KeptScalar (Payload-F.Blob body) = AreOctets body
KeptScalar _ = Unit {0}

-- so each payload, seen as one level
abbrev pub KeptLayer : Layer → Type 0
KeptLayer (Payload-F.List vs) = KeptItems vs
KeptLayer (Payload-F.Sexp vs) = KeptItems vs
KeptLayer (Payload-F.Fields ms) = KeptFields ms
KeptLayer d = KeptScalar d
