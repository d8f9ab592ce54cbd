use Rattle.ion_atoms.specs.laws.Timestamps.{one_timestamp}
use Rattle.ion_atoms.proofs.time_laws.timestamps_by_instant.Goals as goal

pub returns : goal.returns
returns c = one_timestamp
