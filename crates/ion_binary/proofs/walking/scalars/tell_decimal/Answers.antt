use Rattle.std.proofs.Common.{ap, sym}
use Rattle.ion_binary.specs.Names.{as_decimal, number_payload}
use Rattle.ion_scalar.specs.declared.number.Number.{Number}
use Rattle.ion_binary.proofs.Judged.{number_leaf, on_ok}
use Rattle.ion_binary.proofs.walking.scalars.tell_decimal.Goals as goal

pub returns-clause-told : goal.returns-clause-told
returns-clause-told g c =
    let n = Number.Decimal c.in_ok-decimal.decimal in
    on_ok c.heard.result c.heard.ensures.ok (λ w. (
      number_payload n,
      ap as_decimal (sym c.in_ok-decimal.ensures.value),
      number_leaf n,
      c.number.ensures w,
    ))
