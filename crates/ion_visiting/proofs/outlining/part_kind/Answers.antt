use Rattle.std.proofs.Common.{Some, refl}
use Rattle.ion_visiting.specs.Names.{outs-Blob, outs-Clob, outs-Null, outs-Str, outs-Symbol, outs-Truth}
use Rattle.ion_visiting.proofs.outlining.part_kind.Goals as goal

pub returns-in-Null : goal.returns-in-Null
returns-in-Null c = rw (c.in-Null.is, outs-Null c.in-Null.kind) refl

pub returns-in-Truth : goal.returns-in-Truth
returns-in-Truth c = rw (c.in-Truth.is, outs-Truth c.in-Truth.field-0) refl

pub returns-in-Symbol : goal.returns-in-Symbol
returns-in-Symbol c = rw (c.in-Symbol.is, outs-Symbol (Some c.in-Symbol.field-0.now)) refl

pub returns-in-Str : goal.returns-in-Str
returns-in-Str c = rw (c.in-Str.is, outs-Str c.in-Str.field-0.now) refl

pub returns-in-Clob : goal.returns-in-Clob
returns-in-Clob c = rw (c.in-Clob.is, outs-Clob c.in-Clob.field-0.now) refl

pub returns-in-Blob : goal.returns-in-Blob
returns-in-Blob c = rw (c.in-Blob.is, outs-Blob c.in-Blob.field-0.now) refl
