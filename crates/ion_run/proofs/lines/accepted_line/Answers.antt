use Rattle.ion_streams.specs.Listing.{accepted_line}
use Rattle.ion_run.proofs.lines.accepted_line.Goals as goal

pub returns : goal.returns
unfolding accepted_line
returns c = c.format.ensures.ok
