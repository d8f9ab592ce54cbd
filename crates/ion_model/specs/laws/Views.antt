-- A payload of a known kind, by what it holds.
use Rattle.ion_model.specs.declared.value.Payload.TheViews.{outs-Null, outs-Truth, outs-Int, outs-Decimal, outs-Timestamp, outs-Symbol, outs-Str, outs-Clob, outs-Blob, outs-List, outs-Sexp, outs-Fields}

-- what each variant holds, for tactics
pub ruleset views = (outs-Null, outs-Truth, outs-Int, outs-Decimal, outs-Timestamp, outs-Symbol, outs-Str, outs-Clob, outs-Blob, outs-List, outs-Sexp, outs-Fields)
