use Rattle.std.proofs.Common.{ap, sym}
use Rattle.ion_binary.specs.Names.{as_timestamp, number_payload}
use Rattle.ion_scalar.specs.declared.number.Number.{Number}
use Rattle.ion_binary.proofs.Judged.{number_leaf, on_ok}
use Rattle.ion_binary.proofs.walking.scalars.tell_timestamp.Goals as goal

pub returns-clause-told : goal.returns-clause-told
returns-clause-told g c =
    let n = Number.Timestamp c.in_ok-timestamp.timestamp in
    on_ok c.heard.result c.heard.ensures.ok (λ w. (
      number_payload n,
      ap as_timestamp (sym c.in_ok-timestamp.ensures.value),
      number_leaf n,
      c.number.ensures w,
    ))
