use Rattle.std.proofs.Common.{◌≤◌, ◌^◌, arith, sym}
use Rattle.std.proofs.Math.Nat.{pow-le-pow_right}
use Rattle.std.proofs.lemmas.Bool.{false≢true}
use Rattle.ion_scalar.specs.Names.{most_digits}
use Rattle.ion_scalar.proofs.timestamp_body.with_fraction.Goals as goal
use Rattle.ion_scalar.proofs.timestamp_body.with_fraction.Goals.{else-power-via-else-power, else-power-via-then-power+else-power-2}

pub pow-requires : goal.pow-requires
pow-requires c =
    let few : c.args.power.magnitude ≤ most_digits = elim c.else-power.branch [
      | else-power-via-then-power+else-power-2 w ↦ w.if-power-2.false
      | else-power-via-else-power w ↦ absurd (false≢true (sym (rw w.if-power.false at c.if-not-power.false)))
    ] in
    let most : 10 ^ c.args.power.magnitude ≤ 10 ^ most_digits = pow-le-pow_right (omega arith) few in
    rw c.from.ensures (omega (arith, most))
