-- A scalar's body is judged to be what the grammar says, and nothing else.
use Rattle.std.proofs.Common.{◌≡◌, ℕ, pos, neg_ℤ, ◌^◌, ◌<◌, List, [], ◌∷◌, Option, Result, Ok, Err, refl, ap, sym, ◌∙◌, arith, Bool, true, false, cond, lt-ltb, ne_eqb, ltb-true, nat_lt, ◌==◌}
use Rattle.std.proofs.lemmas.Bool.{eqb-false}
use Rattle.std.proofs.lemmas.Str.{IsUtf8-from_is_utf8, is_utf8-from_IsUtf8}
use Rattle.std.specs.Str.{is_utf8}
use Rattle.ion_binary.specs.Names.{BadUtf8, DecimalParts, IsScalar, Malformed, Payload, Reason, Scalar, Slot, TimestampParts, TooLarge, as_decimal, as_symbol, as_timestamp, bare, decimal_of_body, depth, int_of, is_blob, is_clob, is_decimal, is_int, is_negative, is_string, is_symbol, is_timestamp, judge, layer_depth, layer_events, part, positional, resolve, symbol_of, timestamp_of_body, uint_field}
use Rattle.ion_model.specs.declared.value.Payload.TheVariants as payloads
use Rattle.ion_model.specs.declared.value.Payload.TheViews as views
use Rattle.ion_model.specs.Measures.{Layer, layer_nodes}
use Rattle.ion_model.specs.laws.Measures.{depth-out}
use Rattle.ion_scalar.specs.binary.Reads.{ReadsDecimalBody}
use Rattle.ion_scalar.specs.binary.laws.Decimal.{decimal_answers, decimal_body_read}
use Rattle.ion_scalar.specs.binary.laws.Shown.{timestamp_read, timestamp_told}

-- a scalar's body is judged to be it
pub judge_scalar : (c : List Slot) (body : List ℕ) (t : Scalar) (p : Payload) → IsScalar c body t p → judge c t body ≡ Ok p
unfolding judge
judge_scalar c body _ _ (is_int h) = rw (lt-ltb (positional 256 body) (2 ^ 127) h) refl
judge_scalar c body _ _ (is_negative h k) = rw (lt-ltb (positional 256 body) (2 ^ 127) h, ne_eqb (positional 256 body) 0 (λ e. omega arith)) refl
judge_scalar c body _ _ (is_decimal d h k) = ap as_decimal (decimal_body_read body d h k)
judge_scalar c body _ _ (is_timestamp t h) = ap as_timestamp (timestamp_read body t h)
judge_scalar c body _ _ (is_symbol s h k) = rw (lt-ltb (positional 256 body) (2 ^ 127) h, k) refl
judge_scalar c body _ _ (is_string h) = rw (is_utf8-from_IsUtf8 body h) refl
judge_scalar c body _ _ _ = refl

then_ok : {A : Type 0} (b : Bool) (x : Result A Reason) (e : Reason) (v : A) → cond b x (Err e) ≡ Ok v → (b ≡ true) × (x ≡ Ok v)
then_ok true x e v h = (refl, h)
then_ok false x e v h = cc

else_ok : {A : Type 0} (b : Bool) (x : Result A Reason) (e : Reason) (v : A) → cond b (Err e) x ≡ Ok v → (b ≡ false) × (x ≡ Ok v)
else_ok true x e v h = cc
else_ok false x e v h = (refl, h)

-- a number that isn't refused is small, and is the one that the octets make
uint_sound : {A : Type 0} (n : ℕ) (r : Result ℕ Reason) (k : Result ℕ Reason → Result A Reason) (p : A) → r ≡ cond (nat_lt n (2 ^ 127)) (Ok n) (Err TooLarge)
    → ((e : Reason) → k (Err e) ≡ Err e) → k r ≡ Ok p → (n < 2 ^ 127) × (k (Ok n) ≡ Ok p)
uint_sound n (Ok m) k p e f h =
    let q = then_ok (nat_lt n (2 ^ 127)) (Ok n) TooLarge m (sym e) in
    (ltb-true n (2 ^ 127) q.0, ap k q.1 ∙ h)
uint_sound n (Err x) k p e f h = let i = f x in absurd cc

-- a body that is read as a decimal is that decimal
pub decimal_sound : (c : List Slot) (body : List ℕ) (p : Payload) (r : Result DecimalParts Reason) → ReadsDecimalBody body r → as_decimal r ≡ Ok p
    → IsScalar c body Scalar.Decimal p
decimal_sound c body p (Ok d) e h = let i : p ≡ payloads.Decimal d = cc in rw i (is_decimal d e.0 e.1)
decimal_sound c body p (Err x) e h = absurd cc

-- a body that is read as a timestamp is that timestamp
pub timestamp_sound : (c : List Slot) (body : List ℕ) (p : Payload) (r : Result TimestampParts Reason) → timestamp_of_body body ≡ r → as_timestamp r ≡ Ok p
    → IsScalar c body Scalar.Timestamp p
timestamp_sound c body p (Ok t) e h = let i : p ≡ payloads.Timestamp t = cc in rw i (is_timestamp t (timestamp_told body t e))
timestamp_sound c body p (Err x) e h = absurd cc

symbol_sound : (c : List Slot) (body : List ℕ) (p : Payload) (r : Result (Option (List ℕ)) Reason) → positional 256 body < 2 ^ 127
    → resolve c (positional 256 body) ≡ r → as_symbol r ≡ Ok p → IsScalar c body Scalar.Symbol p
symbol_sound c body p (Ok s) k e h = let i : p ≡ payloads.Symbol s = cc in rw i (is_symbol s k e)
symbol_sound c body p (Err x) k e h = absurd cc

-- what isn't refused is the scalar
pub judge_sound : (c : List Slot) (t : Scalar) (body : List ℕ) (p : Payload) → judge c t body ≡ Ok p → IsScalar c body t p
unfolding judge
judge_sound c Scalar.Int body p h =
    let q = uint_sound (positional 256 body) (uint_field body) (int_of false) p refl (λ e. refl) h in
    let e : p ≡ payloads.Int (pos (positional 256 body)) = cc q.1 in rw e (is_int q.0)
judge_sound c Scalar.NegativeInt body p h =
    let q = uint_sound (positional 256 body) (uint_field body) (int_of true) p refl (λ e. refl) h in
    let r = else_ok (positional 256 body == 0) (Ok (payloads.Int (neg_ℤ (pos (positional 256 body))))) Malformed p q.1 in
    let e : p ≡ payloads.Int (neg_ℤ (pos (positional 256 body))) = cc r.1 in
    let ne = eqb-false (positional 256 body) 0 r.0 in
    rw e (is_negative q.0 (omega arith))
judge_sound c Scalar.Decimal body p h = decimal_sound c body p (decimal_of_body body) (decimal_answers body) h
judge_sound c Scalar.Timestamp body p h = timestamp_sound c body p (timestamp_of_body body) refl h
judge_sound c Scalar.Symbol body p h =
    let q = uint_sound (positional 256 body) (uint_field body) (symbol_of c) p refl (λ e. refl) h in
    symbol_sound c body p (resolve c (positional 256 body)) q.0 refl q.1
judge_sound c Scalar.Str body p h =
    let q = then_ok (is_utf8 body) (Ok (payloads.Str body)) BadUtf8 p h in
    let e : p ≡ payloads.Str body = cc q.1 in rw e (is_string (IsUtf8-from_is_utf8 body q.0))
judge_sound c Scalar.Clob body p h = let e : p ≡ payloads.Clob body = cc in rw e is_clob
judge_sound c Scalar.Blob body p h = let e : p ≡ payloads.Blob body = cc in rw e is_blob

-- a payload of no depth, which is one node and is told by one event
pub record IsLeaf (p : Payload) (d : Layer) : Type 0 where
  pub flat : layer_depth d ≡ 0
  pub node : layer_nodes d ≡ 1
  pub event : layer_events d ≡ part p ∷ []

-- a scalar is one
pub scalar_leaf : (c : List Slot) (body : List ℕ) (t : Scalar) (p : Payload) → IsScalar c body t p → IsLeaf p (views.out-Payload p)
scalar_leaf c body _ _ (is_int h) = rw (views.outs-Int _) (record { flat = refl; node = refl; event = refl })
scalar_leaf c body _ _ (is_negative h k) = rw (views.outs-Int _) (record { flat = refl; node = refl; event = refl })
scalar_leaf c body _ _ (is_decimal d h k) = rw (views.outs-Decimal d) (record { flat = refl; node = refl; event = refl })
scalar_leaf c body _ _ (is_timestamp t h) = rw (views.outs-Timestamp t) (record { flat = refl; node = refl; event = refl })
scalar_leaf c body _ _ (is_symbol s h k) = rw (views.outs-Symbol s) (record { flat = refl; node = refl; event = refl })
scalar_leaf c body _ _ (is_string h) = rw (views.outs-Str body) (record { flat = refl; node = refl; event = refl })
scalar_leaf c body _ _ is_clob = rw (views.outs-Clob body) (record { flat = refl; node = refl; event = refl })
scalar_leaf c body _ _ is_blob = rw (views.outs-Blob body) (record { flat = refl; node = refl; event = refl })

-- a scalar has no depth
pub scalar_flat : (c : List Slot) (body : List ℕ) (t : Scalar) (p : Payload) → IsScalar c body t p → depth (bare p) ≡ 0
scalar_flat c body t p i = depth-out (bare p) ∙ (scalar_leaf c body t p i).flat
