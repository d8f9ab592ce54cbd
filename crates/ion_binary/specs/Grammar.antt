-- What binary documents are (Ion 1.0, "Ion Binary Encoding"). Nothing here speaks of reading.
use Rattle.std.specs.Prelude.{◌≡◌, ℕ, Bool, true, false, pos, neg_ℤ, ◌^◌, ◌<◌, ◌≤◌, List, [], ◌∷◌, ◌++◌, length, Option, Ok}
use Rattle.std.specs.Str.{IsUtf8}
use Rattle.ion_binary.specs.Names.Below.{Catalog, DecimalParts, Digits128, Field, Follows, Form, IsDecimal, IsDecimalField, IsTimestampBody, Kind, Known, Limits, ListOrSexp, Null, Payload, Scalar, Sized, Slot, TimestampParts, Truth, Value, VarUInt, annotated, bare, depth, field_of, is_table, next, positional, resolve, system_slots}
use Rattle.ion_model.specs.declared.value.Payload.TheVariants as payloads
use Rattle.ion_binary.specs.Opening.{opening_of}

-- these octets are the descriptor and the length of a body of n octets: by type codes and length codes, those of specs/HeaderRows.antt (laws::headers)
pub data Header (form : Form) (n : ℕ) : List ℕ → Type 0 where
  short : (b : ℕ) → opening_of b ≡ Sized form (Known n) → Header form n (b ∷ [])
  long : (b : ℕ) (w : List ℕ) → opening_of b ≡ Sized form Follows → VarUInt w n → Header form n (b ∷ w)

-- this body is this scalar; an int's is its magnitude, and there is no negative zero; a symbol's is its id
pub data IsScalar (c : List Slot) (body : List ℕ) : Scalar → Payload → Type 0 where
  is_int : positional 256 body < 2 ^ 127 → IsScalar c body Scalar.Int (payloads.Int (pos (positional 256 body)))
  is_negative : positional 256 body < 2 ^ 127 → 0 < positional 256 body → IsScalar c body Scalar.NegativeInt (payloads.Int (neg_ℤ (pos (positional 256 body))))
  is_decimal : (d : DecimalParts) → IsDecimalField body d → IsDecimal d → IsScalar c body Scalar.Decimal (payloads.Decimal d)
  is_timestamp : (t : TimestampParts) → IsTimestampBody body t → IsScalar c body Scalar.Timestamp (payloads.Timestamp t)
  is_symbol : (s : Option (List ℕ)) → positional 256 body < 2 ^ 127 → resolve c (positional 256 body) ≡ Ok s
      → IsScalar c body Scalar.Symbol (payloads.Symbol s)
  is_string : IsUtf8 body → IsScalar c body Scalar.Str (payloads.Str body)
  is_clob : IsScalar c body Scalar.Clob (payloads.Clob body)
  is_blob : IsScalar c body Scalar.Blob (payloads.Blob body)

-- a header and as many octets as it says, whichever they are
pub data IsPad : List ℕ → Type 0 where
  skipped : (h body : List ℕ) → Header Form.Pad (length body) h → IsPad (h ++ body)

-- ids one behind the other, and their symbols
pub data Ids (c : List Slot) : List ℕ → List (Option (List ℕ)) → Type 0 where
  no_ids : Ids c [] []
  one_id : (us w : List ℕ) (ss : List (Option (List ℕ))) (k : ℕ) (s : Option (List ℕ)) → Ids c us ss → VarUInt w k → resolve c k ≡ Ok s
      → Ids c (us ++ w) (ss ++ s ∷ [])

-- a list or an s-expression of these items
abbrev pub listed : ListOrSexp → List Value → Payload
listed ListOrSexp.List vs = payloads.List vs
listed ListOrSexp.Sexp vs = payloads.Sexp vs

mutual
  -- these octets are a value of this payload without annotations
  pub data Plain (c : List Slot) : List ℕ → Payload → Type 0 where
    is_null : (b : ℕ) (k : Kind) → opening_of b ≡ Null k → Plain c (b ∷ []) (payloads.Null k)
    is_truth : (b : ℕ) (t : Bool) → opening_of b ≡ Truth t → Plain c (b ∷ []) (payloads.Truth t)
    is_scalar : (h body : List ℕ) (t : Scalar) (p : Payload) → Header (Form.Scalar t) (length body) h → IsScalar c body t p → Plain c (h ++ body) p
    is_listing : (h body : List ℕ) (x : ListOrSexp) (vs : List Value) → Header (Form.ListOrSexp x) (length body) h → Sequence c body vs
        → Plain c (h ++ body) (listed x vs)
    is_struct : (h body : List ℕ) (ms : List Field) → Header Form.Struct (length body) h → Fields c body ms → Plain c (h ++ body) (payloads.Fields ms)
    is_ordered : (h body : List ℕ) (ms : List Field) → Header Form.OrderedStruct (length body) h → 0 < length body → Fields c body ms
        → Plain c (h ++ body) (payloads.Fields ms)

  -- these octets are this value; in a wrapper the number of the octets of its annotations comes first
  pub data Binary (c : List Slot) : List ℕ → Value → Type 0 where
    unannotated : (w : List ℕ) (p : Payload) → Plain c w p → Binary c w (bare p)
    wrapped : (h count ids w : List ℕ) (ss : List (Option (List ℕ))) (p : Payload) → Header Form.Wrapper (length (count ++ (ids ++ w))) h
        → VarUInt count (length ids) → 0 < length ids → Ids c ids ss → Plain c w p
        → Binary c (h ++ (count ++ (ids ++ w))) (annotated ss p)

  -- these octets are these values, one behind the other, with pads anywhere
  pub data Sequence (c : List Slot) : List ℕ → List Value → Type 0 where
    nothing : Sequence c [] []
    one_more : (us w : List ℕ) (vs : List Value) (v : Value) → Sequence c us vs → Binary c w v → Sequence c (us ++ w) (vs ++ v ∷ [])
    padded : (us w : List ℕ) (vs : List Value) → Sequence c us vs → IsPad w → Sequence c (us ++ w) vs

  -- these octets are these fields: ids and values, one behind the other; an id with a pad behind it is skipped, whatever it is
  pub data Fields (c : List Slot) : List ℕ → List Field → Type 0 where
    no_fields : Fields c [] []
    one_field : (us id w : List ℕ) (ms : List Field) (k : ℕ) (s : Option (List ℕ)) (v : Value) → Fields c us ms → VarUInt id k → resolve c k ≡ Ok s
        → Binary c w v → Fields c (us ++ (id ++ w)) (ms ++ field_of s v ∷ [])
    padded_field : (us id w : List ℕ) (ms : List Field) (k : ℕ) → Fields c us ms → VarUInt id k → IsPad w → Fields c (us ++ (id ++ w)) ms

-- the version marker of Ion 1.0
abbrev pub the_marker : List ℕ
the_marker = 0xE0 ∷ 1 ∷ 0 ∷ 0xEA ∷ []

-- the octets are the marker, then markers, pads, local symbol tables and values, each item of at most the depth and the octets of the limits.
-- These are the values, and this is the context behind them; a marker makes it that of the system slots, a table changes it
pub data Pieces (g : Catalog) (l : Limits) : List ℕ → List Value → List Slot → Type 0 where
  begins : Pieces g l the_marker [] system_slots
  marked : (u : List ℕ) (s : List Value) (c : List Slot) → Pieces g l u s c → Pieces g l (u ++ the_marker) s system_slots
  skips : (u w : List ℕ) (s : List Value) (c : List Slot) → Pieces g l u s c → IsPad w → Pieces g l (u ++ w) s c
  turns : (u w : List ℕ) (s : List Value) (c d : List Slot) (v : Value) → Pieces g l u s c → Binary c w v → is_table v ≡ true → next c v g ≡ Ok d
      → depth v ≤ l.depth → length w ≤ l.item → Pieces g l (u ++ w) s d
  holds : (u w : List ℕ) (s : List Value) (c : List Slot) (v : Value) → Pieces g l u s c → Binary c w v → is_table v ≡ false → depth v ≤ l.depth
      → length w ≤ l.item → Pieces g l (u ++ w) (s ++ v ∷ []) c

-- the octets are a document with these values
abbrev pub Document : Catalog → Limits → List ℕ → List Value → Type 0
Document g l w s = (c : List Slot) × Pieces g l w s c

-- whole pieces: a document, or nothing yet
pub data Whole (g : Catalog) (l : Limits) : List ℕ → List Value → Type 0 where
  no_piece : Whole g l [] []
  document : (u : List ℕ) (s : List Value) (c : List Slot) → Pieces g l u s c → Whole g l u s

-- octets that may stand open behind whole pieces: of a marker at most three, of an item at most the limit on items, of a pad its descriptor and the digits of a
-- length below 2^63, or its header and less than that says
pub data OpenRest (l : Limits) : List ℕ → Type 0 where
  of_marker : (w : List ℕ) → length w ≤ 3 → OpenRest l w
  of_item : (w : List ℕ) → length w ≤ l.item → OpenRest l w
  of_pad_length : (b : ℕ) (w : List ℕ) → opening_of b ≡ Sized Form.Pad Follows → Digits128 w → positional 128 w < 2 ^ 63 → OpenRest l (b ∷ w)
  of_pad : (h body : List ℕ) (n : ℕ) → Header Form.Pad n h → length body < n → OpenRest l (h ++ body)
