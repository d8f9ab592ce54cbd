use Rattle.ion_binary.proofs.Beginning.{marker_ends}
use Rattle.ion_binary.proofs.walking.BinaryWalk.on_marker.Goals as goal

pub returns-else-not-good-clause-does : goal.returns-else-not-good-clause-does
returns-else-not-good-clause-does c =
    marker_ends c.args.self.now c.args.mark c.args.good c.args.octet c.reset.new.self c.in-Fourth.is c.if-octet-ne234.false c.if-not-good.false
    c.reset.ensures
