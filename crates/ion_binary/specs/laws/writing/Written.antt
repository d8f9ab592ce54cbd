-- The octets that are written of a value are that value.
use Rattle.std.proofs.Common.{◌≡◌, ◌≢◌, ℕ, ℤ, suc, pos, negsuc, neg_ℤ, ◌^◌, ◌<◌, ◌≤◌, Bool, true, false, List, [], ◌∷◌, ◌++◌, length, Option, Ok, refl, ap, subst, arith, length-append, append_assoc, append-nil, le-ltb}
use Rattle.std.specs.Prelude.{nat_lt}
use Rattle.std.specs.List.{flat_map}
use Rattle.ion_binary.specs.Names.{Binary, DecimalParts, Field, Fields, Form, Ids, IsBodyLength, IsDecimal, IsKept, IsScalar, IsTimestamp, IsTimestampBody, IsWhole, KeptFields, KeptItems, KeptPayload, Kind, Layer, ListOrSexp, Names, Payload, Plain, Resolves, Scalar, Sequence, Slot, TimestampParts, Value, VarInt, a_field, an_item, annotated, decimal_octets, field_octets, field_of, field_symbols, framed, header, id_of, ids_octets, is_blob, is_clob, is_decimal, is_int, is_listing, is_negative, is_null, is_scalar, is_string, is_struct, is_symbol, is_timestamp, is_truth, kept, kept_blob, kept_clob, kept_decimal, kept_fields, kept_int, kept_list, kept_null, kept_sexp, kept_string, kept_symbol, kept_timestamp, kept_truth, layer_octets, layer_symbols, listed, no_ids, no_items, nothing, null_octet, one_field, one_id, one_more, opening_of, padded_field, positional, resolve, symbols_of, timestamp_octets, truth_octet, type_code, uint_octets, unannotated, value_octets, var_uint_octets, whole_octets, with_count}
use Rattle.ion_model.specs.Kept as keeping
use Rattle.ion_model.specs.declared.value.Payload.TheVariants as payloads
use Rattle.ion_model.specs.declared.value.Payload.TheViews as views
use Rattle.ion_scalar.specs.binary.Fields.{long, short}
use Rattle.ion_scalar.specs.binary.laws.Decimal.{decimal_spelled}
use Rattle.ion_scalar.specs.binary.laws.Shown.{timestamp_told}
use Rattle.ion_scalar.specs.binary.laws.Spellings.{positional_digits_of, var_uint_spelled}
use Rattle.ion_scalar.specs.binary.laws.TimestampSpellings.{timestamp_again}
use Rattle.ion_binary.specs.Grammar as grammar
use Rattle.ion_binary.specs.Output as output
use Rattle.ion_binary.specs.laws.reading.Complete.{binary_some, length_VarUInt, pad_some, plain_some}
use Rattle.ion_binary.specs.laws.writing.Headers.{framed_long, header_is}
use Rattle.ion_binary.specs.laws.writing.Output.{octets-out, symbols-out}

-- 1. Nulls and truths.

null_is : (c : List Slot) (k : Kind) → Plain c (null_octet k ∷ []) (payloads.Null k)
unfolding opening_of Rattle.ion_scalar.specs.binary.Descriptor.descriptor_of
null_is c Kind.Null = is_null 0x0F Kind.Null refl
null_is c Kind.Bool = is_null 0x1F Kind.Bool refl
null_is c Kind.Int = is_null 0x2F Kind.Int refl
null_is c Kind.Float = is_null 0x4F Kind.Float refl
null_is c Kind.Decimal = is_null 0x5F Kind.Decimal refl
null_is c Kind.Timestamp = is_null 0x6F Kind.Timestamp refl
null_is c Kind.Symbol = is_null 0x7F Kind.Symbol refl
null_is c Kind.Str = is_null 0x8F Kind.Str refl
null_is c Kind.Clob = is_null 0x9F Kind.Clob refl
null_is c Kind.Blob = is_null 0xAF Kind.Blob refl
null_is c Kind.List = is_null 0xBF Kind.List refl
null_is c Kind.Sexp = is_null 0xCF Kind.Sexp refl
null_is c Kind.Fields = is_null 0xDF Kind.Fields refl

truth_is : (c : List Slot) (b : Bool) → Plain c (truth_octet b ∷ []) (payloads.Truth b)
unfolding opening_of Rattle.ion_scalar.specs.binary.Descriptor.descriptor_of
truth_is c false = is_truth 0x10 false refl
truth_is c true = is_truth 0x11 true refl

-- 2. Scalars.

framed_scalar : (c : List Slot) (t : Scalar) (body : List ℕ) (p : Payload) → IsBodyLength (Form.Scalar t) (length body) → IsScalar c body t p
    → length (framed (type_code (Form.Scalar t)) body) < 2 ^ 63 → Plain c (framed (type_code (Form.Scalar t)) body) p
framed_scalar c t body p fits is small = is_scalar (header (type_code (Form.Scalar t)) (length body)) body t p
    (header_is _ _ fits (omega (arith, framed_long (type_code (Form.Scalar t)) body))) is

-- octets of a number that is not 0
some_octets : (w : List ℕ) (n : ℕ) → positional 256 w ≡ n → 0 < n → 0 < length w
some_octets [] n e h = omega arith
some_octets (b ∷ w) n e h = omega arith

int_is : (c : List Slot) (z : ℤ) → IsWhole z → length (whole_octets z) < 2 ^ 63 → Plain c (whole_octets z) (payloads.Int z)
int_is c (pos n) h small =
    let e = positional_digits_of 256 n (omega arith) in
    let is : IsScalar c (uint_octets n) Scalar.Int (payloads.Int (pos n)) =
    subst (λ (k : ℕ). IsScalar c (uint_octets n) Scalar.Int (payloads.Int (pos k))) e (is_int (omega (arith, e, h))) in
    let none : nat_lt n 0 ≡ false = le-ltb n 0 (omega arith) in
    rw none (framed_scalar c Scalar.Int (uint_octets n) (payloads.Int (pos n)) tt is (rw none at small))
int_is c (negsuc n) h small =
    let e = positional_digits_of 256 (suc n) (omega arith) in
    let is : IsScalar c (uint_octets (suc n)) Scalar.NegativeInt (payloads.Int (neg_ℤ (pos (suc n)))) =
    subst (λ (k : ℕ). IsScalar c (uint_octets (suc n)) Scalar.NegativeInt (payloads.Int (neg_ℤ (pos k)))) e
    (is_negative (omega (arith, e, h)) (omega (arith, e))) in
    framed_scalar c Scalar.NegativeInt (uint_octets (suc n)) (payloads.Int (negsuc n)) (some_octets (uint_octets (suc n)) (suc n) e (omega arith)) is small

decimal_is : (c : List Slot) (d : DecimalParts) → IsDecimal d → length (framed 5 (decimal_octets d)) < 2 ^ 63
    → Plain c (framed 5 (decimal_octets d)) (payloads.Decimal d)
decimal_is c d h small = framed_scalar c Scalar.Decimal (decimal_octets d) (payloads.Decimal d) tt (is_decimal d (decimal_spelled d (h.1, h.2)) h) small

var_int_some : (w : List ℕ) (negative : Bool) (n : ℕ) → VarInt w negative n → 0 < length w
var_int_some _ _ _ (short octet h) = omega arith
var_int_some _ _ _ (long octet digits last h s b) = omega arith

body_some : (body : List ℕ) (t : TimestampParts) → IsTimestampBody body t → 0 < length body
body_some body t h = omega (arith, var_int_some h.ahead h.below h.minutes h.is_ahead, length-append h.ahead h.fields, ap length h.cut)

timestamp_is : (c : List Slot) (t : TimestampParts) → IsTimestamp t → length (framed 6 (timestamp_octets t)) < 2 ^ 63
    → Plain c (framed 6 (timestamp_octets t)) (payloads.Timestamp t)
timestamp_is c t h small =
    let body = timestamp_told (timestamp_octets t) t (timestamp_again t h) in
    framed_scalar c Scalar.Timestamp (timestamp_octets t) (payloads.Timestamp t) (body_some (timestamp_octets t) t body) (is_timestamp t body) small

symbol_is : (c : List Slot) (n : ℕ) (s : Option (List ℕ)) → resolve c n ≡ Ok s → n < 2 ^ 63 → length (framed 7 (uint_octets n)) < 2 ^ 63
    → Plain c (framed 7 (uint_octets n)) (payloads.Symbol s)
symbol_is c n s r few small =
    let e = positional_digits_of 256 n (omega arith) in
    framed_scalar c Scalar.Symbol (uint_octets n) (payloads.Symbol s) tt (is_symbol s (omega (arith, e)) (rw e r)) small

-- 3. Values.

-- a struct's body is never of one octet
never_one : (c : List Slot) (w : List ℕ) (ms : List Field) → Fields c w ms → length w ≢ 1
never_one c _ _ grammar.no_fields e = omega arith
never_one c _ _ (one_field us id w ms k s v q n r b) e =
    let l0 = length-append us (id ++ w) in
    let l1 = length-append id w in
    let i = length_VarUInt id k n in
    let j = binary_some c w v b in
    omega arith
never_one c _ _ (padded_field us id w ms k q n b) e =
    let l0 = length-append us (id ++ w) in
    let l1 = length-append id w in
    let i = length_VarUInt id k n in
    let j = pad_some w b in
    omega arith

module _ (c : List Slot) (names : Names) where
  pub resolves_front : (ss ts : Names) → Resolves c names (ss ++ ts) → Resolves c names ss
  resolves_front [] ts r = tt
  resolves_front (s ∷ ss) ts r = (r.0, resolves_front ss ts r.1)

  pub resolves_rest : (ss ts : Names) → Resolves c names (ss ++ ts) → Resolves c names ts
  resolves_rest [] ts r = r
  resolves_rest (s ∷ ss) ts r = resolves_rest ss ts r.1

  ids_from : (us : List ℕ) (before ss : Names) → Ids c us before → Resolves c names ss → Ids c (us ++ ids_octets names ss) (before ++ ss)
  ids_from us before [] i r = rw (append-nil us, append-nil before) i
  ids_from us before (s ∷ ss) i r =
      let w = var_uint_octets (id_of names s) in
      let rest = ids_from (us ++ w) (before ++ s ∷ []) ss (one_id us w before (id_of names s) s i (var_uint_spelled (id_of names s) r.0.1) r.0.0) r.1 in
      rw (append_assoc us w, append_assoc before) at rest

  some_ids : (s : Option (List ℕ)) (ss : Names) → Resolves c names (s ∷ ss) → 0 < length (ids_octets names (s ∷ ss))
  some_ids s ss r =
      let w = var_uint_octets (id_of names s) in
      let k = length_VarUInt w (id_of names s) (var_uint_spelled (id_of names s) r.0.1) in
      let e = length-append w (ids_octets names ss) in
      omega arith

  -- annotations before a payload
  wrapped_is : (ss : Names) (p : Payload) (w : List ℕ) → Resolves c names ss → Plain c w p → length (output.wrapped names ss w) < 2 ^ 63
      → Binary c (output.wrapped names ss w) (annotated ss p)
  wrapped_is [] p w r b small = unannotated w p b
  wrapped_is (s ∷ ss) p w r b small =
      let ids = ids_octets names (s ∷ ss) in
      let count = var_uint_octets (length ids) in
      let e : with_count ids ++ w ≡ count ++ (ids ++ w) = append_assoc count ids w in
      let l0 = framed_long 14 (with_count ids ++ w) in
      let l1 = ap length e in
      let l2 = length-append count (ids ++ w) in
      let l3 = length-append ids w in
      let some = some_ids s ss r in
      let number = var_uint_spelled (length ids) (omega arith) in
      let k = length_VarUInt count (length ids) number in
      let j = plain_some c w p b in
      let body = count ++ (ids ++ w) in
      let head = header_is Form.Wrapper (length body) (omega arith) (omega arith) in
      rw e (grammar.wrapped (header 14 (length body)) count ids w (s ∷ ss) p head number some (ids_from [] [] (s ∷ ss) no_ids r) b)

  wrapped_long : (ss : Names) (w : List ℕ) → length w ≤ length (output.wrapped names ss w)
  wrapped_long [] w = omega arith
  wrapped_long (s ∷ ss) w =
      let k = framed_long 14 (with_count (ids_octets names (s ∷ ss)) ++ w) in
      let e = length-append (with_count (ids_octets names (s ∷ ss))) w in
      omega arith

  -- what is known of one level is known of its payload
  abbrev PlainFor : Payload → Layer → Type 0
  PlainFor p d = Resolves c names (layer_symbols d) → length (layer_octets names d) < 2 ^ 63 → Plain c (layer_octets names d) p

  by_layer : (p : Payload) (d : Layer) → views.out-Payload p ≡ d → PlainFor p d → PlainFor p (views.out-Payload p)
  by_layer p d e f = rw e f

  listing_is : (x : ListOrSexp) (body : List ℕ) (vs : List Value) → Sequence c body vs → length (framed (type_code (Form.ListOrSexp x)) body) < 2 ^ 63
      → Plain c (framed (type_code (Form.ListOrSexp x)) body) (listed x vs)
  listing_is x body vs q small = is_listing (header (type_code (Form.ListOrSexp x)) (length body)) body x vs
      (header_is (Form.ListOrSexp x) (length body) tt (omega (arith, framed_long (type_code (Form.ListOrSexp x)) body))) q

  struct_is : (body : List ℕ) (ms : List Field) → Fields c body ms → length (framed 13 body) < 2 ^ 63 → Plain c (framed 13 body) (payloads.Fields ms)
  struct_is body ms q small = is_struct _ body ms (header_is Form.Struct _ (never_one c body ms q) (omega (arith, framed_long 13 body))) q

  mutual
    -- the octets that are written of a kept value are that value, where its symbols have these ids
    pub value_is : (v : Value) → IsKept v → Resolves c names (symbols_of v) → length (value_octets names v) < 2 ^ 63 → Binary c (value_octets names v) v
    value_is _ (kept ss p ts k) r small =
        let r' = rw (symbols-out (annotated ss p)) at r in
        let e = octets-out names (annotated ss p) in
        let whole : length (output.wrapped names ss (layer_octets names (views.out-Payload p))) < 2 ^ 63 = omega (arith, ap length e, small) in
        let inside = wrapped_long ss (layer_octets names (views.out-Payload p)) in
        let plain = payload_is p k (resolves_rest ss (layer_symbols (views.out-Payload p)) r') (omega arith) in
        rw e (wrapped_is ss p (layer_octets names (views.out-Payload p)) (resolves_front ss (layer_symbols (views.out-Payload p)) r') plain whole)

    payload_is : (p : Payload) → KeptPayload p → PlainFor p (views.out-Payload p)
    payload_is _ (kept_null k) = by_layer (payloads.Null k) _ (views.outs-Null k) (λ r small. null_is c k)
    payload_is _ (kept_truth b) = by_layer (payloads.Truth b) _ (views.outs-Truth b) (λ r small. truth_is c b)
    payload_is _ (kept_int z h) = by_layer (payloads.Int z) _ (views.outs-Int z) (λ r small. int_is c z h small)
    payload_is _ (kept_decimal d h) = by_layer (payloads.Decimal d) _ (views.outs-Decimal d) (λ r small. decimal_is c d h small)
    payload_is _ (kept_timestamp t h) = by_layer (payloads.Timestamp t) _ (views.outs-Timestamp t) (λ r small. timestamp_is c t h small)
    payload_is _ (kept_symbol s h) = by_layer (payloads.Symbol s) _ (views.outs-Symbol s) (λ r small. symbol_is c (id_of names s) s r.0.0 r.0.1 small)
    payload_is _ (kept_string text h) = by_layer _ _ (views.outs-Str text) (λ r small. framed_scalar c Scalar.Str text _ tt (is_string h) small)
    payload_is _ (kept_clob body h) = by_layer _ _ (views.outs-Clob body) (λ r small. framed_scalar c Scalar.Clob body _ tt is_clob small)
    payload_is _ (kept_blob body h) = by_layer _ _ (views.outs-Blob body) (λ r small. framed_scalar c Scalar.Blob body _ tt is_blob small)
    payload_is _ (kept_list vs k) = by_layer _ _ (views.outs-List vs) (λ r small.
        listing_is ListOrSexp.List _ vs (items_are [] [] vs nothing k r (omega (arith, framed_long 11 (flat_map (value_octets names) vs)))) small)
    payload_is _ (kept_sexp vs k) = by_layer _ _ (views.outs-Sexp vs) (λ r small.
        listing_is ListOrSexp.Sexp _ vs (items_are [] [] vs nothing k r (omega (arith, framed_long 12 (flat_map (value_octets names) vs)))) small)
    payload_is _ (kept_fields ms k) = by_layer _ _ (views.outs-Fields ms)
        (λ r small. struct_is _ ms (fields_are [] [] ms grammar.no_fields k r (omega (arith, framed_long 13 (flat_map (field_octets names) ms)))) small)

    items_are : (us : List ℕ) (before vs : List Value) → Sequence c us before → KeptItems vs → Resolves c names (flat_map symbols_of vs)
        → length (flat_map (value_octets names) vs) < 2 ^ 63 → Sequence c (us ++ flat_map (value_octets names) vs) (before ++ vs)
    items_are us before _ q no_items r small = rw (append-nil us, append-nil before) q
    items_are us before _ q (an_item v vs k ks) r small =
        let w = value_octets names v in
        let rest = flat_map (value_octets names) vs in
        let e = length-append w rest in
        let one = value_is v k (resolves_front (symbols_of v) (flat_map symbols_of vs) r) (omega arith) in
        let all = items_are (us ++ w) (before ++ v ∷ []) vs (one_more us w before v q one) ks (resolves_rest (symbols_of v) (flat_map symbols_of vs) r)
        (omega arith) in
        rw (append_assoc us w, append_assoc before) at all

    fields_are : (us : List ℕ) (before ms : List Field) → Fields c us before → KeptFields ms → Resolves c names (flat_map field_symbols ms)
        → length (flat_map (field_octets names) ms) < 2 ^ 63 → Fields c (us ++ flat_map (field_octets names) ms) (before ++ ms)
    fields_are us before _ q keeping.no_fields r small = rw (append-nil us, append-nil before) q
    fields_are us before _ q (a_field s v ms t k ks) r small =
        let id = var_uint_octets (id_of names s) in
        let w = value_octets names v in
        let rest = flat_map (field_octets names) ms in
        let e = length-append (id ++ w) rest in
        let f = length-append id w in
        let one = value_is v k (resolves_front (symbols_of v) (flat_map field_symbols ms) r.1) (omega arith) in
        let more = one_field us id w before (id_of names s) s v q (var_uint_spelled (id_of names s) r.0.1) r.0.0 one in
        let all = fields_are (us ++ (id ++ w)) (before ++ field_of s v ∷ []) ms more ks (resolves_rest (symbols_of v) (flat_map field_symbols ms) r.1)
        (omega arith) in
        rw (append_assoc us (id ++ w), append_assoc before) at all
