use Rattle.ion_tokens.proofs.traces.Traced.{traced_alike}
use Rattle.ion_tokens.proofs.laws.one_trace.Goals as goal

pub returns : goal.returns
returns c = traced_alike
