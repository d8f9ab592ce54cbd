use Rattle.ion_tokens.proofs.runs.Cutting.{run-append}
use Rattle.ion_tokens.proofs.traces.Traced.{pieces_lead}
use Rattle.ion_tokens.proofs.laws.any_cutting.Goals as goal

pub returns-clause-whole : goal.returns-clause-whole
returns-clause-whole c = pieces_lead

pub returns-clause-token : goal.returns-clause-token
returns-clause-token c = run-append
