use Rattle.std.proofs.Common.{◌≡◌, refl}
use Rattle.ion_binary.proofs.Scalars.{text_judged, no_text}
use Rattle.ion_binary.proofs.walking.scalars.text_of.Goals as goal

pub returns-then-not-is_utf8 : goal.returns-then-not-is_utf8
returns-then-not-is_utf8 c = no_text c.args.body.now (λ h. let i = c.if-not-is_utf8.ensures.1 h in cc)

pub returns : goal.returns
returns c =
    let e = c.from_utf8_unchecked.ensures in
    let same : c.from_utf8_unchecked.result.now ≡ c.args.body.now = cc in
    text_judged c.args.body.now c.from_utf8_unchecked.result.now same (c.if-not-is_utf8.ensures.0 refl)
