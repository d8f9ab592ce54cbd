use Rattle.std.proofs.Common.{rules, ◌≡◌, ◌++◌, Some, OnOk, sym, subst}
use Rattle.ion_text_writer.specs.Names.{of_string, quoted}
use Rattle.ion_model.specs.declared.value.Payload.TheViews as views
use Rattle.ion_text_writer.proofs.Transcribed.{part_text, symbol_known}
use Rattle.ion_text_writer.proofs.scalar.put_part.Goals as goal

pub returns-in-Null-clause-ok : goal.returns-in-Null-clause-ok
returns-in-Null-clause-ok c = part_text _ _ c.in-Null.is _ c.put_null.result _ _ (views.outs-Null c.in-Null.kind) c.put_null.ensures.ok

pub returns-in-Truth-clause-ok : goal.returns-in-Truth-clause-ok
returns-in-Truth-clause-ok c = part_text _ _ c.in-Truth.is _ c.put_truth.result _ _ (views.outs-Truth c.in-Truth.truth) c.put_truth.ensures.ok

pub returns-in-Symbol-clause-ok : goal.returns-in-Symbol-clause-ok
returns-in-Symbol-clause-ok c =
    let w = c.in-Symbol.text.now in
    part_text _ _ c.in-Symbol.is _ c.put_known.result _ _ (views.outs-Symbol (Some w))
    (subst (λ x. OnOk c.put_known.result (c.put_known.new.out.items ≡ c.args.out.now.items ++ x)) (sym (symbol_known w)) c.put_known.ensures.ok)

pub returns-in-Str-clause-ok : goal.returns-in-Str-clause-ok
returns-in-Str-clause-ok c =
    let w = c.in-Str.text.now in
    let put : OnOk c.put_quoted.result (c.put_quoted.new.out.items ≡ c.args.out.now.items ++ quoted of_string w) = search rules in
    part_text _ _ c.in-Str.is _ c.put_quoted.result _ _ (views.outs-Str w) put

pub returns-in-Clob-clause-ok : goal.returns-in-Clob-clause-ok
returns-in-Clob-clause-ok c = part_text _ _ c.in-Clob.is _ c.put_clob.result _ _ (views.outs-Clob c.in-Clob.octets.now) c.put_clob.ensures.ok

pub returns-in-Blob-clause-ok : goal.returns-in-Blob-clause-ok
returns-in-Blob-clause-ok c = part_text _ _ c.in-Blob.is _ c.put_blob.result _ _ (views.outs-Blob c.in-Blob.octets.now) c.put_blob.ensures.ok
