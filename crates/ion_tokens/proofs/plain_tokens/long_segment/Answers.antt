use Rattle.std.proofs.Common.{◌∙◌, sym}
use Rattle.std.proofs.lemmas.List.{take_rest}
use Rattle.ion_tokens.proofs.runs.WholeTokens.{long_found, long_text}
use Rattle.ion_tokens.proofs.plain_tokens.long_segment.Goals as goal

pub returns-clause-found : goal.returns-clause-found
returns-clause-found c =
    let opens = c.begins_long.ensures c.if-not-begins_long.false in
    let shuts = c.begins_long-2.ensures c.if-not-begins_long-2.false in
    long_found c.args.octets.now _ opens.0 shuts.0 c.characters-count.result opens.1 (take_rest c.args.octets.now 3) c.characters-count.ensures.kept
    c.characters-count.ensures.within (sym (take_rest _ c.characters-count.result) ∙ shuts.1)

pub returns-clause-text : goal.returns-clause-text
returns-clause-text c = long_text c.args.octets.now _ c.characters-count.result (take_rest c.args.octets.now 3) c.characters-count.ensures.kept
