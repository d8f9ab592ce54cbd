use Rattle.std.proofs.Common.{arith, rules}
use Rattle.ion_tokens.proofs.runs.EscapedTexts.{digits_lead}
use Rattle.ion_tokens.proofs.escapes.escape_by_digits.Goals as goal

pub returns-clause-leads : goal.returns-clause-leads
returns-clause-leads c =
    digits_lead c.args.style c.args.octets.now _ _ _ _ c.in_ok-number.number c.requires.backslash (omega (arith, c.if-octets-count.false))
    (search rules) c.in_ok-count.ensures.length c.in_ok-count.ensures.clob c.in_ok-number.ensures c.in_ok-keep_number.ensures.scalar
    c.in_ok-keep_number.ensures.kept
