use Rattle.std.proofs.Common.{◌≡◌, ◌+◌, ◌-◌, ◌*◌, ◌<◌, ◌/◌, ◌^◌, suc, arith}
use Rattle.std.proofs.lemmas.Nat.{div_below}
use Rattle.std.proofs.Math.Nat.{pow-suc}
use Rattle.ion_scalar.proofs.DigitSteps.{spells_back}
use Rattle.ion_scalar.proofs.backward.Backward.push_long_decimal.Goals as goal

pub loop-preserved : goal.loop-preserved
loop-preserved c =
    let l = c.loop in
    let w = 19 - (l.counter + 1) in
    let e : 19 - l.counter ≡ suc w = omega arith in
    let few : l.last < 10 ^ w * 10 = rw (← pow-suc 10 w, ← e) l.invariant.few in
    record {
      place = omega (arith, l.invariant.place, l.invariant.spells.within);
      spells = spells_back 39 c.args.value c.args.self.now l.start (c.args.value / 10 ^ 19) w l.last l.self-inside.octets
          c.requires.room (omega arith) (rw e at l.invariant.spells);
      few = div_below l.last 10 (10 ^ w) (omega arith) few;
    }
