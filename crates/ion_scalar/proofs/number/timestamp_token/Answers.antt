use Rattle.ion_scalar.specs.text.laws.TimestampForms.{short_parts, none_there, made}
use Rattle.ion_scalar.proofs.number.timestamp_token.Goals as goal

pub returns-in-Some-new : goal.returns-in-Some-new
returns-in-Some-new c =
    let os = c.args.token.now in
    let t = c.in-Some.ensures.some in
    let short = c.is_short.ensures.0 c.if-not-is_short.false in
    made os t.0 c.in-Some-new.timestamp _ t.1 (short_parts os t.0 c.in-Some.stamp t.1 t.2 short).1 c.in-Some-new.ensures

pub returns-in-None : goal.returns-in-None
returns-in-None c =
    let os = c.args.token.now in
    let t = c.in-Some.ensures.some in
    none_there os t.0 c.in-Some.stamp t.1 t.2 (c.is_short.ensures.0 c.if-not-is_short.false) c.in-None.ensures
