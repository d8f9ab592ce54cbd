use Rattle.ion_binary.specs.Names.{number_payload}
use Rattle.ion_scalar.specs.declared.number.Number.{Number}
use Rattle.ion_binary.proofs.Judged.{number_leaf, on_ok}
use Rattle.ion_binary.proofs.walking.scalars.tell_int.Goals as goal

pub returns-clause-told : goal.returns-clause-told
returns-clause-told g c =
    let n = Number.Int c.in_ok-whole.whole in
    on_ok c.heard.result c.heard.ensures.ok (λ w. (number_payload n, c.in_ok-whole.ensures, number_leaf n, c.number.ensures w))
