use Rattle.std.proofs.Common.{refl}
use Rattle.std.proofs.lemmas.Result.{IfOk-weaker}
use Rattle.ion_words.proofs.Commands.{added}
use Rattle.ion_words.proofs.command_line.command_line.Goals as goal

pub returns : goal.returns
returns c =
    let one = added c.over_one.result _ _ _ _ c.over_one.ensures refl c.bare.ensures c.in_ok-program.ensures in
    let two = added c.over_one-2.result _ _ _ _ c.over_one-2.ensures refl one c.in_ok-program-2.ensures in
    let three = added c.converting.result _ _ _ _ c.converting.ensures refl two c.in_ok-program-3.ensures in
    IfOk-weaker c.with_command-4.result _ _ (λ r adds. added c.comparing.result _ _ _ _ c.comparing.ensures refl three adds) c.with_command-4.ensures
