use Rattle.std.proofs.Common.{◌≢◌, ◌<◌, get_or, arith}
use Rattle.ion_scalar.specs.text.laws.ShortNumbers.{short_whole}
use Rattle.ion_scalar.proofs.short_number.short_whole.Goals as goal
use Rattle.ion_scalar.proofs.short_number.short_whole.Goals.{else-whole-gt1-via-then-whole-gt1+else-body-eq48, else-whole-gt1-via-else-whole-gt1}

pub returns-clause-whole : goal.returns-clause-whole
returns-clause-whole c =
    let body = c.args.body.now in
    let run = c.plain_digits-whole in
    let first : 1 < run.result.used → get_or body 0 0 ≢ 48 = elim c.else-whole-gt1.branch [
      | else-whole-gt1-via-then-whole-gt1+else-body-eq48 w ↦ λ _. w.if-body-eq48.false
      | else-whole-gt1-via-else-whole-gt1 w ↦ λ more _. absurd (omega (arith, w.if-whole-gt1.false))
    ] in
    short_whole body run.result.used run.result.value run.ensures (omega arith) first
