use Rattle.std.proofs.Common.{refl, arith, sym, subst}
use Rattle.std.proofs.lemmas.Int.{ints}
use Rattle.ion_scalar.specs.Names.{IsTimestamp}
use Rattle.ion_scalar.specs.text.laws.UsualTokens.{second_spelled, there_in_utc}
use Rattle.ion_scalar.proofs.usual_token.usual_second.Goals as goal

pub of_parts-requires : goal.of_parts-requires
of_parts-requires c =
    let is = c.in-Some.ensures in
    there_in_utc _ _ _ (c.if-not-is_day.ensures.0 refl) (c.if-not-is_time.ensures.0 refl) (λ i. (is.1 i).fraction) (omega (arith, ints), omega (arith, ints)) refl

pub returns : goal.returns
returns c =
    let is = c.in-Some.ensures in
    let there = there_in_utc _ _ _ (c.if-not-is_day.ensures.0 refl) (c.if-not-is_time.ensures.0 refl) (λ i. (is.1 i).fraction)
    (omega (arith, ints), omega (arith, ints)) refl in (
      second_spelled c.args.token.now _ c.of_parts.result c.requires is.0 c.if-token-ne58.false c.in-Some-two_at.ensures.value.0 c.if-token-ne90.false
          (λ i. record (is.1 i) { second = c.in-Some-two_at.ensures.value.1 i })
          c.of_parts.ensures,
      subst IsTimestamp (sym c.of_parts.ensures) there,
    )
