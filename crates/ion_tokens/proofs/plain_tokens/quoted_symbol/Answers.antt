use Rattle.std.proofs.Common.{arith, ◌<◌, length}
use Rattle.ion_tokens.specs.Names.{Style}
use Rattle.ion_tokens.proofs.runs.WholeTokens.{quoted_found, quoted_text}
use Rattle.ion_tokens.proofs.plain_tokens.quoted_symbol.Goals as goal

pub returns-clause-found : goal.returns-clause-found
returns-clause-found c =
    let some : 0 < length c.args.octets.now = grind (arith, c.is_empty.ensures, c.if-is_empty.false) in
    quoted_found c.args.octets.now c.characters-count.result some c.if-octets-ne39.false c.characters-count.ensures.kept c.if-count-eq0.false
    c.if-count-content.false c.if-content-count-ne39.false

pub returns-clause-text : goal.returns-clause-text
returns-clause-text c = quoted_text Style.QuotedSymbol c.args.octets.now c.characters-count.result c.characters-count.ensures.kept
