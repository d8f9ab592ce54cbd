use Rattle.std.proofs.Common.{refl, arith}
use Rattle.jiff.proofs.SpanFacts.{signed_arith}
use Rattle.ion_atoms.proofs.timestamp.is_kept_in_utc.Goals as goal

pub returns-in-Some : goal.returns-in-Some
returns-in-Some c =
    let within = c.in-Some.ensures.some.0 refl in
    (λ t. (omega (arith, signed_arith, within), omega (arith, signed_arith, within)), λ w. refl)
