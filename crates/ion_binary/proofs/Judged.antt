-- What scalars are, told as parts.
use Rattle.std.proofs.Common.{◌≡◌, ℕ, List, Option, Some, Result, Ok, Err, true, ap, refl}
use Rattle.std.specs.Prelude.{is_ok}
use Rattle.std.proofs.lemmas.Bool.{false≢true}
use Rattle.std.specs.Result.{OnOk}
use Rattle.ion_binary.specs.Names.{DecimalParts, IsPart, Part, Reason, Scalar, Slot, TimestampParts, as_decimal, as_timestamp, decimal_of_body, judge, layer_events, number_of, number_payload, outs-Blob, outs-Clob, outs-Decimal, outs-Int, outs-Null, outs-Str, outs-Symbol, outs-Timestamp, outs-Truth, payload_of, timestamp_of_body}
use Rattle.ion_model.specs.declared.value.Payload.TheVariants as payloads
use Rattle.ion_scalar.specs.declared.number.Number.{Number}
use Rattle.ion_atoms.specs.declared.kind.Kind.{Kind}
use Rattle.ion_visiting.specs.Parts.{body_payload, decimal_read, timestamp_read}
use Rattle.ion_visiting.specs.declared.part.NumberBody.{NumberBody}

-- what holds of the answer of a call holds of another one
pub on_ok : {T A B : Type 0} (r : Result T Reason) → OnOk r A → (A → B) → OnOk r B
on_ok (Ok x) h f = f h
on_ok (Err e) h f = tt

-- parts and numbers have no value in them

pub part_leaf : (said : Part) → IsPart (payload_of said)
part_leaf (Part.Null k) = ap layer_events (outs-Null k)
part_leaf (Part.Truth b) = ap layer_events (outs-Truth b)
part_leaf (Part.Symbol w) = ap layer_events (outs-Symbol (Some w.now))
part_leaf (Part.Str w) = ap layer_events (outs-Str w.now)
part_leaf (Part.Clob w) = ap layer_events (outs-Clob w.now)
part_leaf (Part.Blob w) = ap layer_events (outs-Blob w.now)

pub number_leaf : (n : Number) → IsPart (number_payload n)
number_leaf (Number.Int z) = ap layer_events (outs-Int z)
number_leaf (Number.Decimal d) = ap layer_events (outs-Decimal d)
number_leaf (Number.Timestamp t) = ap layer_events (outs-Timestamp t)

decimal_leaf : (r : Result DecimalParts Reason) → IsPart (decimal_read r)
decimal_leaf (Ok d) = ap layer_events (outs-Decimal d)
decimal_leaf (Err e) = ap layer_events (outs-Null Kind.Null)

timestamp_leaf : (r : Result TimestampParts Reason) → IsPart (timestamp_read r)
timestamp_leaf (Ok t) = ap layer_events (outs-Timestamp t)
timestamp_leaf (Err e) = ap layer_events (outs-Null Kind.Null)

pub body_leaf : (n : NumberBody) → IsPart (body_payload n)
body_leaf (NumberBody.Decimal w) = decimal_leaf (decimal_of_body w.now)
body_leaf (NumberBody.Timestamp w) = timestamp_leaf (timestamp_of_body w.now)

decimal_is : (r : Result DecimalParts Reason) → is_ok (as_decimal r) ≡ true → as_decimal r ≡ Ok (decimal_read r)
decimal_is (Ok d) h = refl
decimal_is (Err e) h = absurd (false≢true h)

timestamp_is : (r : Result TimestampParts Reason) → is_ok (as_timestamp r) ≡ true → as_timestamp r ≡ Ok (timestamp_read r)
timestamp_is (Ok t) h = refl
timestamp_is (Err e) h = absurd (false≢true h)

-- what is no body is told to nobody
pub body_read : (n : NumberBody) → is_ok (number_of n) ≡ true → number_of n ≡ Ok (body_payload n)
body_read (NumberBody.Decimal w) h = decimal_is (decimal_of_body w.now) h
body_read (NumberBody.Timestamp w) h = timestamp_is (timestamp_of_body w.now) h

pub symbol_leaf : (s : Option (List ℕ)) → IsPart (payloads.Symbol s)
symbol_leaf s = ap layer_events (outs-Symbol s)

module _ (c : List Slot) (t : Scalar) (body : List ℕ) where
  pub judged_clob : t ≡ Scalar.Clob → judge c t body ≡ Ok (payloads.Clob body)
  unfolding judge
  judged_clob is = ap (λ t. judge c t body) is

  pub judged_blob : t ≡ Scalar.Blob → judge c t body ≡ Ok (payloads.Blob body)
  unfolding judge
  judged_blob is = ap (λ t. judge c t body) is
