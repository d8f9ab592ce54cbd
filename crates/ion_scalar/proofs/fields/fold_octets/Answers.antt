use Rattle.std.proofs.Common.{◌+◌, arith}
use Rattle.ion_scalar.specs.Names.{positional_behind, positional_behind_take}
use Rattle.ion_scalar.proofs.fields.fold_octets.Goals as goal

pub returns-then-value : goal.returns-then-value
returns-then-value c = λ small.
    let so_far = positional_behind 256 c.args.front c.args.octets.now c.loop-octet.octet-index c.loop-octet-test.true in
    let whole = positional_behind_take 256 c.args.front c.args.octets.now (c.loop-octet.octet-index + 1) (omega arith) in
    absurd (omega arith)

pub loop-octet-preserved : goal.loop-octet-preserved
loop-octet-preserved c =
    let so_far = positional_behind 256 c.args.front c.args.octets.now c.loop-octet.octet-index c.loop-octet-test.true in
    let d = c.type_inv.octets c.loop-octet.octet-index in
    record { value = omega arith; small = omega arith }
