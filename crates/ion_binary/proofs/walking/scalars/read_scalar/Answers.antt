use Rattle.ion_binary.specs.Names.{Part}
use Rattle.ion_model.specs.declared.value.Payload.TheVariants as payloads
use Rattle.ion_binary.proofs.Judged.{judged_blob, judged_clob, on_ok, part_leaf}
use Rattle.ion_binary.proofs.walking.scalars.read_scalar.Goals as goal

pub returns-in-Clob-clause-told : goal.returns-in-Clob-clause-told
returns-in-Clob-clause-told g c = on_ok c.heard.result c.heard.ensures.ok (λ w. (
  payloads.Clob c.args.body.now,
  judged_clob c.args.context.now c.args.scalar c.args.body.now c.in-Clob.is,
  part_leaf (Part.Clob c.args.body),
  c.part.ensures w,
))

pub returns-in-Blob-clause-told : goal.returns-in-Blob-clause-told
returns-in-Blob-clause-told g c = on_ok c.heard-in-Blob.result c.heard-in-Blob.ensures.ok (λ w. (
  payloads.Blob c.args.body.now,
  judged_blob c.args.context.now c.args.scalar c.args.body.now c.in-Blob.is,
  part_leaf (Part.Blob c.args.body),
  c.part-in-Blob.ensures w,
))
