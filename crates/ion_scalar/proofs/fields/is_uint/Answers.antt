use Rattle.std.proofs.Common.{sym}
use Rattle.ion_scalar.specs.binary.laws.Usual.{usual_uint}
use Rattle.ion_scalar.proofs.fields.is_uint.Goals as goal

pub returns-then-octets-lt16 : goal.returns-then-octets-lt16
returns-then-octets-lt16 c = sym (usual_uint c.args.octets.now (λ k h. (c.type_inv.octets k).fits) c.if-octets-lt16.true)
