use Rattle.ion_events.specs.laws.LaidDown.{none_laid, one_laid, stream_laid}
use Rattle.ion_events.proofs.laws.laid_down.Goals as goal

pub returns-clause-none : goal.returns-clause-none
returns-clause-none g c = none_laid

pub returns-clause-one_more : goal.returns-clause-one_more
returns-clause-one_more g c = one_laid

pub returns-clause-stream : goal.returns-clause-stream
returns-clause-stream g c = stream_laid
