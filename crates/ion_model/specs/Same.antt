-- When two values are equivalent. Their annotations agree one by one, their kinds agree, both are null or
-- neither is, scalars agree in every part, lists and s-expressions are as long and agree place by place, and
-- every field of either struct stands as often in the one as in the other.
--
-- The definition goes in two steps: first one level, with a test E of the values inside as a parameter; then
-- that test is the same definition again, as many levels down as the values go.
use Rattle.std.specs.Prelude.{ℕ, zero, suc, max, ◌==◌, List, [], Bool, true, false, ◌&&◌, Option, None, ℤ, pos, count_by, nat_eq}
use Rattle.std.specs.Bool.{beq}
use Rattle.std.specs.List.{list_all}
use Rattle.std.specs.Ordering.{int_eq}
use lib.Pointwise.{pointwise}
use Rattle.ion_atoms.specs.Decimals.{DecimalParts, decimal_same}
use Rattle.ion_atoms.specs.Kinds.{kind_rank}
use Rattle.ion_atoms.specs.Timestamps.{TimestampParts, timestamp_same}
use Rattle.ion_atoms.specs.declared.kind.Kind.{Kind}
use Rattle.ion_atoms.specs.declared.timestamp.Precision.{Precision}
use Rattle.ion_model.specs.Measures.{Layer, depth}
use Rattle.ion_model.specs.Symbols.{symbol_same, text_same}
use Rattle.ion_model.specs.declared.value.Field.{Field}
use Rattle.ion_model.specs.declared.value.Payload.TheOpen.{Payload-F}
use Rattle.ion_model.specs.declared.value.Payload.TheViews.{out-Payload}
use Rattle.ion_model.specs.declared.value.Value.{Value}

abbrev pub no_decimal : DecimalParts
no_decimal = record { negative = false; magnitude = 0; exponent = pos 0 }

abbrev pub no_timestamp : TimestampParts
no_timestamp = record {
  local = record { year = 1; month = 1; day = 1; hour = 0; minute = 0; second = 0; fraction = 0 };
  precision = Precision.Year;
  offset = None;
}

-- what a payload is beside the values in it: the rank of its kind, whether it is no null, and a part of each
-- sort, which is always the same one where the payload has none of that sort
pub record Scalar : Type 0 where
  pub kind : ℕ
  pub full : Bool
  pub truth : Bool
  pub int : ℤ
  pub decimal : DecimalParts
  pub timestamp : TimestampParts
  pub symbol : Option (List ℕ)
  pub text : List ℕ

-- of a payload that is no null and has no part
abbrev pub no_scalar : Kind → Scalar
no_scalar k = record {
  kind = kind_rank k;
  full = true;
  truth = false;
  int = pos 0;
  decimal = no_decimal;
  timestamp = no_timestamp;
  symbol = None;
  text = [];
}

-- what one level of a payload is beside the values in it
abbrev pub scalar : Layer → Scalar
scalar (Payload-F.Null k) = record (no_scalar k) { full = false }
scalar (Payload-F.Truth b) = record (no_scalar Kind.Bool) { truth = b }
scalar (Payload-F.Int z) = record (no_scalar Kind.Int) { int = z }
scalar (Payload-F.Decimal d) = record (no_scalar Kind.Decimal) { decimal = d }
scalar (Payload-F.Timestamp t) = record (no_scalar Kind.Timestamp) { timestamp = t }
scalar (Payload-F.Symbol s) = record (no_scalar Kind.Symbol) { symbol = s }
scalar (Payload-F.Str s) = record (no_scalar Kind.Str) { text = s }
scalar (Payload-F.Clob s) = record (no_scalar Kind.Clob) { text = s }
scalar (Payload-F.Blob s) = record (no_scalar Kind.Blob) { text = s }
scalar (Payload-F.List vs) = no_scalar Kind.List
scalar (Payload-F.Sexp vs) = no_scalar Kind.Sexp
scalar (Payload-F.Fields fs) = no_scalar Kind.Fields

-- the kinds agree, both are null or neither is, and so does each part
abbrev pub scalar_same : Scalar → Scalar → Bool
scalar_same s t =
    nat_eq s.kind t.kind && (beq s.full t.full && (beq s.truth t.truth && (int_eq s.int t.int && (decimal_same s.decimal t.decimal
    && (timestamp_same s.timestamp t.timestamp && (symbol_same s.symbol t.symbol && text_same s.text t.text))))))

-- the values in a list or s-expression, and none in any other payload
abbrev pub items : Layer → List Value
items (Payload-F.List vs) = vs
items (Payload-F.Sexp vs) = vs
items _ = []

-- the fields of a struct, and none of any other payload
abbrev pub fields : Layer → List Field
fields (Payload-F.Fields fs) = fs
fields _ = []

module _ (E : Value → Value → Bool) where
  -- the names are the same symbol, and E tells of the values
  abbrev pub field_same : Field → Field → Bool
  field_same f g = symbol_same f.name g.name && E f.value g.value

  -- how often a field stands among these
  abbrev pub field_count : List Field → Field → ℕ
  field_count gs f = count_by (field_same f) gs

  -- each of the fields hs stands as often among fs as among gs
  abbrev pub counts_agree : List Field → List Field → List Field → Bool
  counts_agree fs gs hs = list_all (λ h. field_count fs h == field_count gs h) hs

  -- every field of either stands as often in the one as in the other
  abbrev pub fields_same : List Field → List Field → Bool
  fields_same fs gs = counts_agree fs gs fs && counts_agree fs gs gs

  -- two payloads, where E tells of the values inside
  abbrev pub layer_same : Layer → Layer → Bool
  layer_same a b = scalar_same (scalar a) (scalar b) && (pointwise E (items a) (items b) && fields_same (fields a) (fields b))

  -- two values, where E tells of the values inside
  abbrev pub value_same : Value → Value → Bool
  value_same v w = pointwise symbol_same v.annotations w.annotations && layer_same (out-Payload v.payload) (out-Payload w.payload)

-- two values as far as their first n levels show
abbrev pub same_to : ℕ → Value → Value → Bool
same_to zero v w = true
same_to (suc n) v w = value_same (same_to n) v w

-- whether two values are equivalent: no value has more levels than one above its depth
unfoldable pub same : Value → Value → Bool
same v w = same_to (suc (max (depth v) (depth w))) v w
