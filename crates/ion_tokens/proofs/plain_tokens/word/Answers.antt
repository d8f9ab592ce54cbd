use Rattle.std.proofs.Common.{◌∙◌, sym, arith, ◌<◌, length}
use Rattle.ion_tokens.proofs.runs.WholeTokens.{word_found, word_text}
use Rattle.ion_tokens.proofs.plain_tokens.word.Goals as goal

pub returns-clause-found : goal.returns-clause-found
returns-clause-found c =
    let some : 0 < length c.args.octets.now = omega (arith, c.if-count-octets.false) in
    word_found c.args.octets.now c.of_word-count.result some (sym c.begins_word.ensures ∙ c.if-not-begins_word.false) c.of_word-count.ensures
    c.if-count-octets.false c.if-octets-count-eq46.false

pub returns-clause-text : goal.returns-clause-text
returns-clause-text c = word_text c.args.octets.now c.of_word-count.result c.of_word-count.ensures
