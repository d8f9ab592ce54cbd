use Rattle.ion_tokens.proofs.runs.Lendings.{lends_there}
use Rattle.ion_tokens.proofs.machine.Machine.judged.Goals as goal

pub returns-in-Ok-clause-lends : goal.returns-in-Ok-clause-lends
returns-in-Ok-clause-lends c =
    lends_there c.args.before c.args.lexeme.start c.args.lexeme.end c.args.piece.now c.lent-lent.result.now c.in-Ok.body c.lent-lent.ensures
    c.in-Ok.ensures.lends
