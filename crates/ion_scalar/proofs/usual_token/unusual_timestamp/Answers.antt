use Rattle.ion_scalar.specs.text.laws.UsualTokens.{usual_spelled}
use Rattle.ion_scalar.proofs.usual_token.unusual_timestamp.Goals as goal

pub usual_parts-requires : goal.usual_parts-requires
usual_parts-requires c = let t = c.in-Some.ensures in (c.args.token.now, t.0, t.1, t.2)

pub returns-in-Some : goal.returns-in-Some
returns-in-Some c =
    let t = c.in-Some.ensures in
    usual_spelled c.args.token.now t.0 c.in-Some.spelled c.usual_parts.result t.1 t.2 c.usual_parts.ensures
