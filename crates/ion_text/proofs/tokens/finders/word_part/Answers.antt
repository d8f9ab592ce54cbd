use Rattle.ion_text.proofs.Walks.{word_free}
use Rattle.ion_text.proofs.tokens.finders.word_part.Goals as goal

pub returns-then-not-may_be_keyword : goal.returns-then-not-may_be_keyword
returns-then-not-may_be_keyword c =
    let free = c.may_be_keyword.ensures c.if-not-may_be_keyword.true in
    word_free c.args.word.now free
