use Rattle.ion_visiting.proofs.SameOctets.{same_masked}
use Rattle.ion_visiting.proofs.same_octets.have_same_lanes.Goals as goal

pub returns : goal.returns
returns c = same_masked c.args.first c.args.second c.fits-first.0 c.fits-second.0
