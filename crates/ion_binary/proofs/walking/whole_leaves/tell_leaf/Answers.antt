use Rattle.std.proofs.Common.{ap}
use Rattle.ion_binary.specs.Names.{Part, judge_leaf}
use Rattle.ion_model.specs.declared.value.Payload.TheVariants as payloads
use Rattle.ion_binary.proofs.Judged.{on_ok, part_leaf}
use Rattle.ion_binary.proofs.walking.whole_leaves.tell_leaf.Goals as goal

pub returns-in-Null-clause-told : goal.returns-in-Null-clause-told
returns-in-Null-clause-told g c = on_ok c.heard.result c.heard.ensures.ok (λ w. (
  payloads.Null c.in-Null.kind,
  ap (λ leaf. judge_leaf c.args.context.now leaf c.args.body.now) c.in-Null.is,
  part_leaf (Part.Null c.in-Null.kind),
  c.part.ensures w,
))

pub returns-in-Truth-clause-told : goal.returns-in-Truth-clause-told
returns-in-Truth-clause-told g c = on_ok c.heard-in-Truth.result c.heard-in-Truth.ensures.ok (λ w. (
  payloads.Truth c.in-Truth.truth,
  ap (λ leaf. judge_leaf c.args.context.now leaf c.args.body.now) c.in-Truth.is,
  part_leaf (Part.Truth c.in-Truth.truth),
  c.part-in-Truth.ensures w,
))
