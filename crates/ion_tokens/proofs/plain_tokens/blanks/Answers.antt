use Rattle.ion_tokens.proofs.runs.WholeTokens.{blank_passed}
use Rattle.ion_tokens.proofs.plain_tokens.blanks.Goals as goal

pub returns-clause-passed : goal.returns-clause-passed
returns-clause-passed c = blank_passed c.args.octets.now c.white.result c.white.ensures
