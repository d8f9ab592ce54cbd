use Rattle.ion_tokens.proofs.machine.Machine.given_behind.Goals as goal

pub returns-in-Some-clause-lends : goal.returns-in-Some-clause-lends
returns-in-Some-clause-lends c = λ piece. c.in-Some.ensures.lends c.args.before c.args.lexeme.start c.args.lexeme.end piece
