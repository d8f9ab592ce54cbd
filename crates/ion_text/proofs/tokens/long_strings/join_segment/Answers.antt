use Rattle.std.proofs.Common.{refl}
use Rattle.std.proofs.lemmas.Option.{IfSome_then}
use Rattle.ion_text.proofs.tokens.long_strings.join_segment.Goals as goal

pub returns : goal.returns
returns c = (c.in-Some.said.now, c.in-Some.ensures.found c.args.here c.args.rest, c.in_ok-join.ensures)

-- with escapes
pub returns-in_default : goal.returns-in_default
returns-in_default c = IfSome_then c.join_escaped.result c.join_escaped.ensures (λ size x. (
  x.more,
  λ old. record { kept = x.kept; more = x.more; found = x.found; says = x.says; joined = refl },
  λ _. x.joined,
))
