use Rattle.std.proofs.Common.{sym, ◌∙◌}
use Rattle.ion_binary.proofs.Unread.{as_form, blob_unread, clob_unread, decimal_unread, int_unread, text_unread, timestamp_unread}
use Rattle.ion_binary.proofs.walking.unread.is_scalar.Goals as goal

pub returns-in-Int : goal.returns-in-Int
returns-in-Int c = λ e. as_form _ _ _ _ c.in-Int.is (int_unread c.args.context.now _ (sym c.is_uint.ensures ∙ e))

pub returns-in-NegativeInt : goal.returns-in-NegativeInt
returns-in-NegativeInt c = λ e. as_form _ _ _ _ c.in-NegativeInt.is (c.is_negative.ensures e c.args.context.now)

pub returns-in-Decimal : goal.returns-in-Decimal
returns-in-Decimal c = λ e. as_form _ _ _ _ c.in-Decimal.is (decimal_unread c.args.context.now _ (sym c.is_decimal_body.ensures ∙ e))

pub returns-in-Timestamp : goal.returns-in-Timestamp
returns-in-Timestamp c = λ e. as_form _ _ _ _ c.in-Timestamp.is (timestamp_unread c.args.context.now _ (sym c.is_timestamp_body.ensures ∙ e))

pub returns-in-Symbol : goal.returns-in-Symbol
returns-in-Symbol c = λ e. as_form _ _ _ _ c.in-Symbol.is (c.is_symbol.ensures e)

pub returns-in-Str : goal.returns-in-Str
returns-in-Str c = λ e. as_form _ _ _ _ c.in-Str.is (text_unread c.args.context.now _ (c.is_utf8.ensures.0 e))

pub returns-in-Clob : goal.returns-in-Clob
returns-in-Clob c = λ _. as_form _ _ _ _ c.in-Clob.is (clob_unread _ _)

pub returns-in-Blob : goal.returns-in-Blob
returns-in-Blob c = λ _. as_form _ _ _ _ c.in-Blob.is (blob_unread _ _)
