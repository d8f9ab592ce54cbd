use Rattle.ion_tokens.proofs.traces.TokensTraced.{tokens_traced}
use Rattle.ion_tokens.proofs.traces.TraceTokens.{trace_is_exact}
use Rattle.ion_tokens.proofs.laws.trace_is_exact.Goals as goal

pub returns-clause-tells : goal.returns-clause-tells
returns-clause-tells c = trace_is_exact

pub returns-clause-told : goal.returns-clause-told
returns-clause-told c = tokens_traced
