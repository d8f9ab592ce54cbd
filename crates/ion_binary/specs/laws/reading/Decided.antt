-- A body of a binary document is refused only for reasons that octets decide, and so is each row of the format's table.
use Rattle.std.proofs.Common.{ℕ, ◌^◌, List, Result, Ok, Err, Option, Bool, true, false, nat_lt, ◌==◌, inl, inr, subst, sym}
use Rattle.std.specs.Str.{is_utf8}
use Rattle.ion_binary.specs.Names.{Catalog, DecimalParts, Limits, Malformed, Payload, Reason, Scalar, Slot, TimestampParts, TooLarge, as_decimal, as_symbol, as_timestamp, decimal_of_body, int_of, judge, positional, resolve, symbol_of, timestamp_of_body, uint_field}
use Rattle.ion_scalar.specs.binary.laws.BodyReasons.{IsBodyReason, JudgesBody, decimal_judges, timestamp_judges}
use Rattle.ion_symtab.specs.Decided.{Decides, IsDecided}
use Rattle.ion_symtab.specs.laws.Decided.{next_decides, resolve_decides}
use Rattle.ion_symtab.specs.laws.Reasons.{either}
use Rattle.ion_binary.specs.Deciding as deciding
use Rattle.ion_binary.specs.laws.reading.OnlyReasons.{IsPlainReason, PlainOpening, opening_plain}

body_decides : (e : Reason) → IsBodyReason e → IsDecided e
body_decides TooLarge h = tt
body_decides Malformed h = tt
body_decides _ h = absurd h

judged_decides : {A : Type 0} (r : Result A Reason) → JudgesBody r → Decides r
judged_decides (Ok x) h = tt
judged_decides (Err e) h = body_decides e h

int_decides : (negative : Bool) (r : Result ℕ Reason) → Decides r → Decides (int_of negative r)
int_decides negative (Err e) h = h
int_decides false (Ok n) h = tt
int_decides true (Ok n) h = either (Decides {A = Payload}) (n == 0) _ _ tt tt

uint_decides : (body : List ℕ) → Decides (uint_field body)
uint_decides body = either (Decides {A = ℕ}) (nat_lt (positional 256 body) (2 ^ 127)) _ _ tt tt

as_symbol_decides : (r : Result (Option (List ℕ)) Reason) → Decides r → Decides (as_symbol r)
as_symbol_decides (Ok s) h = tt
as_symbol_decides (Err e) h = h

symbol_decides : (c : List Slot) (r : Result ℕ Reason) → Decides r → Decides (symbol_of c r)
symbol_decides c (Ok id) h = as_symbol_decides (resolve c id) (resolve_decides c id)
symbol_decides c (Err e) h = h

as_decimal_decides : (r : Result DecimalParts Reason) → Decides r → Decides (as_decimal r)
as_decimal_decides (Ok d) h = tt
as_decimal_decides (Err e) h = h

as_timestamp_decides : (r : Result TimestampParts Reason) → Decides r → Decides (as_timestamp r)
as_timestamp_decides (Ok t) h = tt
as_timestamp_decides (Err e) h = h

-- a body is refused for reasons alone that octets decide
pub judge_decides : (c : List Slot) (t : Scalar) (body : List ℕ) → Decides (judge c t body)
unfolding judge
judge_decides c Scalar.Int body = int_decides false (uint_field body) (uint_decides body)
judge_decides c Scalar.NegativeInt body = int_decides true (uint_field body) (uint_decides body)
judge_decides c Scalar.Decimal body = as_decimal_decides (decimal_of_body body) (judged_decides (decimal_of_body body) (decimal_judges body))
judge_decides c Scalar.Timestamp body = as_timestamp_decides (timestamp_of_body body) (judged_decides (timestamp_of_body body) (timestamp_judges body))
judge_decides c Scalar.Symbol body = symbol_decides c (uint_field body) (uint_decides body)
judge_decides c Scalar.Str body = either (Decides {A = Payload}) (is_utf8 body) _ _ tt tt
judge_decides c _ body = tt

plain_decides : (e : Reason) → IsPlainReason e → IsDecided e
plain_decides e (inl h) = subst IsDecided (sym h) tt
plain_decides e (inr h) = subst IsDecided (sym h) tt

-- each row of the table is for a reason that octets decide
pub row_decides : (g : Catalog) (l : Limits) (u : List ℕ) (e : Reason) → deciding.Decides g l u e → IsDecided e
row_decides g l _ _ (deciding.no_descriptor c start ks u b e o t i) = plain_decides e (subst PlainOpening i (opening_plain b))
row_decides g l _ _ (deciding.no_name c start end id ks u b e o h n) = subst (Decides {A = Option (List ℕ)}) h (resolve_decides c id)
row_decides g l _ _ (deciding.no_annotation c start stop id ks u e o h) = subst (Decides {A = Option (List ℕ)}) h (resolve_decides c id)
row_decides g l _ _ (deciding.bad_body c start end ks t front body e o i s h) = subst (Decides {A = Payload}) h (judge_decides c t body)
row_decides g l _ _ (deciding.bad_empty_body c start ks t u e o h) = subst (Decides {A = Payload}) h (judge_decides c t _)
row_decides g l _ _ (deciding.bad_table u w s c v e d b t n p q) = subst (Decides {A = List Slot}) q (next_decides c v g)
row_decides g l _ _ _ = tt
