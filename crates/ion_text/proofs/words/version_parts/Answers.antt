use Rattle.std.proofs.Common.{◌∙◌, ap, sym}
use Rattle.ion_text.specs.Names.{version_parts}
use Rattle.ion_text.proofs.Versions.{since, version_step}
use Rattle.ion_text.proofs.words.version_parts.Goals as goal

pub loop-octet-preserved : goal.loop-octet-preserved
loop-octet-preserved c =
    c.loop-octet.invariant
    ∙ (ap (λ w. version_parts (since c.loop-octet.some w)) c.in-Some.ensures.cases.0
    ∙ version_step c.loop-octet.some c.in-Some.octet.now c.in-Some.behind.now (sym c.is_digit.ensures ∙ c.if-not-is_digit.false))
