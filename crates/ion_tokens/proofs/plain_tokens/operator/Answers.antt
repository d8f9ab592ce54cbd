use Rattle.std.proofs.Common.{◌∙◌, sym, arith}
use Rattle.ion_tokens.proofs.runs.WholeTokens.{operator_found, operator_text}
use Rattle.ion_tokens.proofs.plain_tokens.operator.Goals as goal

pub returns-clause-found : goal.returns-clause-found
returns-clause-found c =
    operator_found c.args.octets.now c.of_operator-count.result (omega (arith, c.if-count-eq0.false)) c.of_operator-count.ensures c.if-count-octets.false
    (sym c.is_digit.ensures ∙ c.if-is_digit.false) c.if-behind-eq105.false c.if-behind-eq47.false

pub returns-clause-text : goal.returns-clause-text
returns-clause-text c = operator_text c.args.octets.now c.of_operator-count.result c.of_operator-count.ensures
