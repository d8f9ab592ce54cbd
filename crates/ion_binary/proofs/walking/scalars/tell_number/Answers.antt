use Rattle.std.proofs.Common.{◌∙◌, Some, ap, sym}
use Rattle.ion_visiting.specs.Parts.{body_payload}
use Rattle.ion_binary.proofs.Judged.{body_leaf, body_read, on_ok}
use Rattle.ion_binary.proofs.walking.scalars.tell_number.Goals as goal

pub returns-in-Some-clause-told : goal.returns-in-Some-clause-told
returns-in-Some-clause-told g c =
    let n = c.args.body.now in
    on_ok c.heard.result c.heard.ensures.ok (λ w. (
      body_payload n,
      body_read n (sym c.is_body.ensures ∙ c.if-is_body.true),
      body_leaf n,
      c.number_body.ensures.told (c.in-Some.is ∙ ap Some w),
    ))
