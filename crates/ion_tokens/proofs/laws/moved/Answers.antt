use Rattle.std.proofs.Common.{take, refl}
use Rattle.ion_tokens.specs.Names.{past_blank, resting}
use Rattle.ion_tokens.proofs.histories.Stepped.{goes_on}
use Rattle.ion_tokens.proofs.runs.Moved.{blank_moves, token_moves, trace_moves}
use Rattle.ion_tokens.proofs.traces.Traced.{next_stands}
use Rattle.ion_tokens.proofs.laws.moved.Goals as goal

pub returns-clause-blank : goal.returns-clause-blank
returns-clause-blank c = blank_moves

pub returns-clause-token : goal.returns-clause-token
returns-clause-token c = λ p q r u octets ts ahead kind kept n left h goes f pass. token_moves p r u octets ts kind kept n pass q ahead left h goes f

pub returns-clause-comments : goal.returns-clause-comments
returns-clause-comments c = λ p r behind u octets ts ahead n h goes rests.
    goes_on p (resting r) u ts ahead h (take n octets) (resting behind) goes (rests.ran p)

pub returns-clause-blank_traced : goal.returns-clause-blank_traced
returns-clause-blank_traced c = λ places r u octets told ahead n h goes passed.
    next_stands (places told) (resting r) (take n octets) places u told ahead (resting (past_blank r n)) (passed (places told) r) h goes refl

pub returns-clause-comments_traced : goal.returns-clause-comments_traced
returns-clause-comments_traced c = λ places r behind u octets told ahead n h goes rests.
    next_stands (places told) (resting r) (take n octets) places u told ahead (resting behind) (rests.ran (places told)) h goes refl

pub returns-clause-token_traced : goal.returns-clause-token_traced
returns-clause-token_traced c = λ places r u octets told ahead kind kept n left content h goes f says.
    trace_moves places r u octets told kind kept n content says ahead left h goes f
