use Rattle.std.proofs.Common.{arith, ◌<◌, length}
use Rattle.ion_tokens.specs.Names.{Style}
use Rattle.ion_tokens.proofs.runs.WholeTokens.{quoted_text, short_found}
use Rattle.ion_tokens.proofs.plain_tokens.short_string.Goals as goal

pub returns-clause-found : goal.returns-clause-found
returns-clause-found c =
    let some : 0 < length c.args.octets.now = grind (arith, c.is_empty.ensures, c.if-is_empty.false) in
    short_found c.args.octets.now c.characters-count.result some c.if-octets-ne34.false c.characters-count.ensures.kept c.if-count-content.false
    c.if-content-count-ne34.false

pub returns-clause-text : goal.returns-clause-text
returns-clause-text c = quoted_text Style.ShortString c.args.octets.now c.characters-count.result c.characters-count.ensures.kept
