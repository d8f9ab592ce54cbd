use Rattle.std.proofs.Common.{refl, arith, sym, subst}
use Rattle.ion_scalar.specs.Names.{IsTimestamp}
use Rattle.ion_scalar.specs.text.laws.UsualTokens.{day_spelled, there_in_utc}
use Rattle.ion_scalar.proofs.usual_token.usual_day.Goals as goal

pub of_parts-requires : goal.of_parts-requires
of_parts-requires c = there_in_utc _ _ _ (c.if-not-is_day.ensures.0 refl) (omega arith, omega arith, omega arith) (refl, refl, refl, refl) refl refl

pub returns : goal.returns
returns c =
    let is = c.in-Some.ensures in
    let there = there_in_utc _ _ _ (c.if-not-is_day.ensures.0 refl) (omega arith, omega arith, omega arith) (refl, refl, refl, refl) refl refl in (
      day_spelled c.args.token.now _ c.of_parts.result (c.if-not-ends_day.ensures.0 refl) is.0
          (λ i. record { year = (is.1 i).0; month = (is.1 i).1; day = (is.1 i).2; hour = 0; minute = 0; second = 0; fraction = 0 }) c.of_parts.ensures,
      subst IsTimestamp (sym c.of_parts.ensures) there,
    )
