use Rattle.std.proofs.Common.{◌≡◌, ◌≤◌, ◌+◌, ◌*◌, ◌^◌, ap, ◌∙◌, arith}
use Rattle.std.proofs.Math.Nat.{pow-suc, pow-le-pow_right}
use Rattle.ion_scalar.specs.Names.{positional_behind}
use Rattle.ion_scalar.proofs.fields.fold_few.Goals as goal

pub overflow_mul-value : goal.overflow_mul-value
overflow_mul-value c =
    let l = c.loop-octet in
    let few : l.octet-index + 1 ≤ 7 = omega arith in
    let most : 256 ^ (l.octet-index + 1) ≤ 256 ^ 7 = pow-le-pow_right (omega arith) few in
    let small = l.invariant.small in
    omega arith

pub loop-octet-preserved : goal.loop-octet-preserved
loop-octet-preserved c =
    let l = c.loop-octet in
    let so_far = positional_behind 256 c.args.front c.args.octets.now l.octet-index c.loop-octet-test.true in
    let d = c.type_inv.octets l.octet-index in
    let more : 256 ^ (l.octet-index + 1 + 1) ≡ 256 ^ (l.octet-index + 1) * 256 = ap (λ n. 256 ^ n) (omega arith) ∙ pow-suc 256 (l.octet-index + 1) in
    let small = l.invariant.small in
    record { value = omega arith; small = omega arith }
