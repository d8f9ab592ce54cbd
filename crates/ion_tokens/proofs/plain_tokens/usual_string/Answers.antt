use Rattle.std.proofs.Common.{◌<◌, length, take, arith}
use Rattle.ion_tokens.specs.Names.{Style}
use Rattle.ion_tokens.specs.Usual.{is_usual}
use Rattle.ion_tokens.proofs.Usual.{usual_plain}
use Rattle.ion_tokens.proofs.texts.Characters.{plain_kept}
use Rattle.ion_tokens.proofs.runs.WholeTokens.{behind_first, front_each, quoted_text, short_found}
use Rattle.ion_tokens.proofs.plain_tokens.usual_string.Goals as goal

pub returns-clause-found : goal.returns-clause-found
returns-clause-found c =
    let some : 0 < length c.args.octets.now = omega (arith, c.requires) in
    let n = c.in_ok-count.count in
    let x = c.in_ok-count.ensures in
    let behind = behind_first c.args.octets.now in
    short_found c.args.octets.now n some c.if-octets-ne34.false
    (plain_kept Style.ShortString (take n behind) (usual_plain (take n behind) (front_each (is_usual 34) behind n x.usual))) x.within x.quote

pub returns-clause-text : goal.returns-clause-text
returns-clause-text c =
    let n = c.in_ok-count.count in
    let behind = behind_first c.args.octets.now in
    quoted_text Style.ShortString c.args.octets.now n
    (plain_kept Style.ShortString (take n behind) (usual_plain (take n behind) (front_each (is_usual 34) behind n c.in_ok-count.ensures.usual)))
