use Rattle.ion_events.specs.laws.OneStream.{lays_kept, lays_one_stream}
use Rattle.ion_events.proofs.laws.lays_one_stream.Goals as goal

pub returns-clause-one : goal.returns-clause-one
returns-clause-one c = lays_one_stream

pub returns-clause-kept : goal.returns-clause-kept
returns-clause-kept c = lays_kept
