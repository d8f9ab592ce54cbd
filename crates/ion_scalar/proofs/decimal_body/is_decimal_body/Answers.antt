use Rattle.std.proofs.Common.{sym}
use Rattle.ion_scalar.specs.binary.laws.Usual.{usual_decimal}
use Rattle.ion_scalar.proofs.decimal_body.is_decimal_body.Goals as goal

pub returns-then-octets-lt16 : goal.returns-then-octets-lt16
returns-then-octets-lt16 c =
    sym (usual_decimal c.args.octets.now (λ k h. (c.type_inv.octets k).fits) c.if-octets-ge128.true c.if-octets-lt16.true)
