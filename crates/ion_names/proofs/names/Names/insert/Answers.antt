use Rattle.std.proofs.Common.{arith}
use Rattle.ion_names.proofs.names.Names.insert.Goals as goal

pub returns-clause-small : goal.returns-clause-small
returns-clause-small g c = omega (arith, c.in_ok-id.ensures.within, c.len-count.ensures.len, c.len-count.ensures.small)
