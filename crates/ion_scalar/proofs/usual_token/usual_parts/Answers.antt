use Rattle.std.proofs.Common.{refl}
use Rattle.ion_scalar.specs.text.laws.UsualTokens.{usual_there}
use Rattle.ion_scalar.proofs.usual_token.usual_parts.Goals as goal

pub of_parts-requires : goal.of_parts-requires
of_parts-requires c =
    let t = c.requires in
    let usual = c.if-not-is_usual.ensures in
    usual_there t.0 t.1 c.args.spelled t.2 t.3 (c.is_short.ensures.0 c.if-not-is_short.false) (usual.day refl) (usual.time refl) (usual.years refl)

pub returns : goal.returns
returns c =
    let t = c.requires in
    let usual = c.if-not-is_usual.ensures in
    let short = c.is_short.ensures.0 c.if-not-is_short.false in
    (short, usual_there t.0 t.1 c.args.spelled t.2 t.3 short (usual.day refl) (usual.time refl) (usual.years refl), c.of_parts.ensures)
