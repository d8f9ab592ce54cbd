use Rattle.std.proofs.Common.{◌≡◌, ◌+◌, ◌-◌, suc, arith}
use Rattle.ion_scalar.specs.text.laws.TimestampTexts.{padded_step}
use Rattle.ion_scalar.proofs.text.padded_before.Goals as goal

pub loop-preserved : goal.loop-preserved
loop-preserved c =
    let l = c.loop in
    let push = c.push_front.ensures in
    let e : c.args.digits - l.counter ≡ suc (c.args.digits - (l.counter + 1)) = omega arith in
    record {
      place = rw push (omega (arith, l.invariant.place));
      text = padded_step (c.args.digits - (l.counter + 1)) l.rest l.octets _ _ (rw e at l.invariant.text) push;
    }
