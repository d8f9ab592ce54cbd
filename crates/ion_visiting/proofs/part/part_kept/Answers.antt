use Rattle.std.proofs.Common.{Some, sym, subst}
use Rattle.ion_visiting.specs.Names.{KeptPayload, kept_blob, kept_clob, kept_null, kept_string, kept_symbol, kept_truth, payload_of}
use Rattle.ion_visiting.proofs.part.part_kept.Goals as goal

pub returns-in-Null : goal.returns-in-Null
returns-in-Null c = subst (λ s. KeptPayload (payload_of s)) (sym c.in-Null.is) (kept_null _)

pub returns-in-Truth : goal.returns-in-Truth
returns-in-Truth c = subst (λ s. KeptPayload (payload_of s)) (sym c.in-Truth.is) (kept_truth _)

pub returns-in-Symbol : goal.returns-in-Symbol
returns-in-Symbol c = subst (λ s. KeptPayload (payload_of s)) (sym c.in-Symbol.is) (kept_symbol (Some c.in-Symbol.text.now) c.text_kept.ensures)

pub returns-in-Str : goal.returns-in-Str
returns-in-Str c = subst (λ s. KeptPayload (payload_of s)) (sym c.in-Str.is) (kept_string c.in-Str.text.now c.text_kept-in-Str.ensures)

pub returns-in-Clob : goal.returns-in-Clob
returns-in-Clob c = subst (λ s. KeptPayload (payload_of s)) (sym c.in-Clob.is) (kept_clob c.in-Clob.octets.now c.are_octets.ensures)

pub returns-in-Blob : goal.returns-in-Blob
returns-in-Blob c = subst (λ s. KeptPayload (payload_of s)) (sym c.in-Blob.is) (kept_blob c.in-Blob.octets.now c.are_octets-in-Blob.ensures)
