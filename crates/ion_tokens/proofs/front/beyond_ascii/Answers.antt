use Rattle.std.proofs.Common.{◌∙◌, take, sym}
use Rattle.ion_tokens.specs.Names.{is_plain}
use Rattle.ion_tokens.proofs.runs.GoesOn.{rest_is}
use Rattle.ion_tokens.proofs.runs.WholeTokens.{front_each}
use Rattle.ion_tokens.proofs.texts.Characters.{behind_kept, plain_kept}
use Rattle.ion_tokens.proofs.front.beyond_ascii.Goals as goal

-- ASCII characters alone
pub returns-then-ascii-octets-clause-kept : goal.returns-then-ascii-octets-clause-kept
returns-then-ascii-octets-clause-kept c =
    let octets = c.args.octets.now in
    plain_kept c.args.style (take c.args.ascii octets) (front_each (is_plain c.args.style) octets c.args.ascii c.requires)

pub returns-clause-kept : goal.returns-clause-kept
returns-clause-kept c =
    let octets = c.args.octets.now in
    let ascii = c.args.ascii in
    behind_kept c.args.style c.is_long.result c.quote_of.result octets _ ascii c.characters_between.result (rest_is octets ascii)
    (sym c.is_clob.ensures ∙ c.if-is_clob.false) c.is_long.ensures c.quote_of.ensures
    (front_each (is_plain c.args.style) octets ascii c.requires) c.characters_between.ensures.raw c.characters_between.ensures.text
