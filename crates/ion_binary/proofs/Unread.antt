-- Scalars that a visitor heeds not, which needn't be read for it.
use Rattle.std.proofs.Common.{◌≡◌, ℕ, ◌*◌, ◌^◌, ◌<◌, ◌≤◌, List, [], ◌∷◌, ◌++◌, length, length-append, get_or, Option, true, false, Result, Ok, Err, refl, ap, sym, subst, ◌∙◌, arith, inl, inr}
use Rattle.std.specs.Prelude.{is_ok, MatchResult, ℤ}
use Rattle.std.specs.Char.{is_ascii}
use Rattle.std.specs.List.{list_all}
use Rattle.std.specs.Str.{IsUtf8}
use Rattle.std.proofs.Math.Nat.{one-le-pow, mul-le-mul_right}
use Rattle.std.proofs.Math.Seq.{drop-append_seam, take-append_seam}
use Rattle.std.proofs.lemmas.Bool.{cases_lt, false≢true, le-ltb, ltb-true}
use Rattle.std.proofs.lemmas.List.Elements.{All-weaker}
use Rattle.std.proofs.lemmas.List.Sums.{AllPass-from_list_all}
use Rattle.std.proofs.lemmas.Str.{IsCharBoundary-from_take, IsUtf8-append, IsUtf8-drop, IsUtf8-from_ascii}
use Rattle.std.proofs.lemmas.Str.Ascii.{IsAscii-from_all}
use Rattle.ion_binary.specs.Names.{BadUtf8, DecimalParts, Event, IsScalar, Payload, Reason, Scalar, Slot, TableFilter, Tells, TellsAs, TimestampParts, as_decimal, as_timestamp, decimal_of_body, int_of, is_blob, is_clob, is_decimal, is_int, is_negative, is_string, is_symbol, is_timestamp, judge, layer_kind, outs-Blob, outs-Clob, outs-Decimal, outs-Int, outs-Str, outs-Symbol, outs-Timestamp, part, positional, resolve, scalar_kind, timestamp_of_body, uint_field}
use Rattle.ion_model.specs.declared.value.Payload.TheVariants as payloads
use Rattle.ion_model.specs.declared.value.Payload.TheViews as views
use Rattle.ion_binary.specs.laws.reading.Judged.{scalar_leaf, judge_scalar, judge_sound}
use Rattle.ion_binary.proofs.Scalars.{no_text}

-- 1. Bodies that aren't refused, form by form.

int_judged : (r : Result ℕ Reason) → is_ok (int_of false r) ≡ is_ok r
int_judged (Ok n) = refl
int_judged (Err e) = refl

-- a body whose number isn't refused is an int
pub int_unread : (c : List Slot) (body : List ℕ) → is_ok (uint_field body) ≡ true → is_ok (judge c Scalar.Int body) ≡ true
unfolding judge
int_unread c body h = int_judged (uint_field body) ∙ h

-- a number that isn't refused is below 2^127
uint_kept : (body : List ℕ) → is_ok (uint_field body) ≡ true → positional 256 body < 2 ^ 127
uint_kept body h =
    elim (cases_lt (positional 256 body) (2 ^ 127)) [
      | inl small ↦ small
      | inr large ↦ absurd (let k = rw (le-ltb (positional 256 body) (2 ^ 127) large) at h in cc)
    ]

-- the first octet is no leading zero
uint_some : (body : List ℕ) → 0 < get_or body 0 0 → 0 < positional 256 body
uint_some [] first = first
uint_some (octet ∷ rest) first =
    let one : 1 ≤ 256 ^ length rest = one-le-pow (length rest) 256 (omega arith) in
    let more : 1 * 256 ^ length rest ≤ octet * 256 ^ length rest = mul-le-mul_right (256 ^ length rest) first in
    omega (arith, one, more)

-- without leading zeros it is the magnitude of a negative int
pub negative_unread : (c : List Slot) (body : List ℕ) → 0 < get_or body 0 0 → is_ok (uint_field body) ≡ true → is_ok (judge c Scalar.NegativeInt body) ≡ true
negative_unread c body first h = ap is_ok (judge_scalar c body Scalar.NegativeInt _ (is_negative (uint_kept body h) (uint_some body first)))

-- with them, where a negative int is read of it
pub negative_read : (c : List Slot) (body : List ℕ) (r : Result ℤ Reason)
    → MatchResult r (λ z. int_of true (uint_field body) ≡ Ok (payloads.Int z)) (λ reason. int_of true (uint_field body) ≡ Err reason)
    → is_ok r ≡ true → is_ok (judge c Scalar.NegativeInt body) ≡ true
unfolding judge
negative_read c body (Ok z) e h = ap is_ok e
negative_read c body (Err reason) e h = absurd (false≢true h)

decimal_judged : (r : Result DecimalParts Reason) → is_ok (as_decimal r) ≡ is_ok r
decimal_judged (Ok d) = refl
decimal_judged (Err e) = refl

-- a body that is read as a decimal is one
pub decimal_unread : (c : List Slot) (body : List ℕ) → is_ok (decimal_of_body body) ≡ true → is_ok (judge c Scalar.Decimal body) ≡ true
unfolding judge
decimal_unread c body h = decimal_judged (decimal_of_body body) ∙ h

timestamp_judged : (r : Result TimestampParts Reason) → is_ok (as_timestamp r) ≡ is_ok r
timestamp_judged (Ok t) = refl
timestamp_judged (Err e) = refl

-- a body that is read as a timestamp is one
pub timestamp_unread : (c : List Slot) (body : List ℕ) → is_ok (timestamp_of_body body) ≡ true → is_ok (judge c Scalar.Timestamp body) ≡ true
unfolding judge
timestamp_unread c body h = timestamp_judged (timestamp_of_body body) ∙ h

-- a body whose number is the id of a symbol is that symbol
pub symbol_unread : (c : List Slot) (body : List ℕ) (id : ℕ) (s : Option (List ℕ)) → id ≡ positional 256 body → id < 2 ^ 64 → resolve c id ≡ Ok s
    → is_ok (judge c Scalar.Symbol body) ≡ true
symbol_unread c body id s e small found =
    let below : id < 2 ^ 127 = omega arith in
    ap is_ok (judge_scalar c body Scalar.Symbol _ (is_symbol s (subst (λ k. k < 2 ^ 127) e below) (subst (λ k. resolve c k ≡ Ok s) e found)))

-- a body in UTF-8 is a string
pub text_unread : (c : List Slot) (body : List ℕ) → IsUtf8 body → is_ok (judge c Scalar.Str body) ≡ true
text_unread c body h = ap is_ok (judge_scalar c body Scalar.Str _ (is_string h))

-- octets of ASCII are a text
pub ascii_utf8 : (body : List ℕ) → list_all is_ascii body ≡ true → IsUtf8 body
ascii_utf8 body h = IsUtf8-from_ascii body (IsAscii-from_all body
    (All-weaker (λ o. is_ascii o ≡ true) (λ o. o < 128) (λ o. ltb-true o 128) body (AllPass-from_list_all is_ascii body h)))

-- whatever its octets, a body is a clob
pub clob_unread : (c : List Slot) (body : List ℕ) → is_ok (judge c Scalar.Clob body) ≡ true
clob_unread c body = ap is_ok (judge_scalar c body Scalar.Clob _ is_clob)

-- and a blob
pub blob_unread : (c : List Slot) (body : List ℕ) → is_ok (judge c Scalar.Blob body) ≡ true
blob_unread c body = ap is_ok (judge_scalar c body Scalar.Blob _ is_blob)

-- of a form by another name
pub as_form : (c : List Slot) (t x : Scalar) (body : List ℕ) → t ≡ x → is_ok (judge c x body) ≡ true → is_ok (judge c t body) ≡ true
as_form c t x body e h = subst (λ t. is_ok (judge c t body) ≡ true) (sym e) h

-- 2. What is told of them.

module _ {V : Type 0} (takes : V → Event → V → Type 0) (c : List Slot) (t : Scalar) (body : List ℕ) (f g : TableFilter) (a b : V)
    (went : (p : Payload) → IsScalar c body t p → Tells takes (part p) f g a b) where
  unread_by : (r : Result Payload Reason) → judge c t body ≡ r → is_ok r ≡ true → TellsAs takes (judge c t body) f g a b
  unread_by (Ok p) e h = (
    p,
    e,
    (scalar_leaf c body t p (judge_sound c t body p e)).event,
    went p (judge_sound c t body p e),
  )
  unread_by (Err reason) e h = absurd (false≢true h)

  -- it is told where a filter and its visitor go on whichever it is
  pub unread_told : is_ok (judge c t body) ≡ true → TellsAs takes (judge c t body) f g a b
  unread_told h = unread_by (judge c t body) refl h

-- of which kind a scalar is
pub kind_unread : (c : List Slot) (body : List ℕ) (t : Scalar) (p : Payload) → IsScalar c body t p → layer_kind (views.out-Payload p) ≡ scalar_kind t
kind_unread c body _ _ (is_int h) = ap layer_kind (views.outs-Int _)
kind_unread c body _ _ (is_negative h k) = ap layer_kind (views.outs-Int _)
kind_unread c body _ _ (is_decimal d h k) = ap layer_kind (views.outs-Decimal d)
kind_unread c body _ _ (is_timestamp t h) = ap layer_kind (views.outs-Timestamp t)
kind_unread c body _ _ (is_symbol s h k) = ap layer_kind (views.outs-Symbol s)
kind_unread c body _ _ (is_string h) = ap layer_kind (views.outs-Str body)
kind_unread c body _ _ is_clob = ap layer_kind (views.outs-Clob body)
kind_unread c body _ _ is_blob = ap layer_kind (views.outs-Blob body)

-- 3. Strings whose front was let go.

module _ (front rest : List ℕ) where
  cut_within : length front ≤ length (front ++ rest)
  cut_within = omega (arith, length-append front rest)

  -- what follows whole characters of a text is a text
  rest_utf8 : IsUtf8 front → IsUtf8 (front ++ rest) → IsUtf8 rest
  rest_utf8 before whole =
      subst IsUtf8 (drop-append_seam front rest)
      (IsUtf8-drop (front ++ rest) (length front) whole
      (IsCharBoundary-from_take (front ++ rest) (length front) whole cut_within (subst IsUtf8 (sym (take-append_seam front rest)) before)))

  -- whole characters and a text are a string
  pub cut_text_unread : (c : List Slot) → IsUtf8 front → IsUtf8 rest → is_ok (judge c Scalar.Str (front ++ rest)) ≡ true
  cut_text_unread c before behind = text_unread c (front ++ rest) (IsUtf8-append front rest before behind)

  -- whole characters before what is no text are none
  pub no_cut_text : (c : List Slot) → IsUtf8 front → ¬ (IsUtf8 rest) → judge c Scalar.Str (front ++ rest) ≡ Err BadUtf8
  unfolding judge
  no_cut_text c before h = no_text (front ++ rest) (λ whole. h (rest_utf8 before whole))
