use Rattle.std.proofs.Common.{ap, length, arith}
use Rattle.ion_text.proofs.walk.TextWalk.held.Goals as goal

-- beside the scanner no octets of an open token are kept
pub returns : goal.returns
returns c =
    let beside = ap length c.args.self.now.beside.none_open in
    let held = c.held.ensures.held in
    omega arith
