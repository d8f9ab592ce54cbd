use Rattle.ion_streams.specs.Names.{accepted_line}
use Rattle.ion_streams.proofs.listing.accepted.Goals as goal

pub returns : goal.returns
unfolding accepted_line
returns c = c.format.ensures.ok
