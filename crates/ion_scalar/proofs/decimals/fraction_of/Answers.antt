use Rattle.std.proofs.Common.{take}
use Rattle.std.proofs.lemmas.List.{take_rest}
use Rattle.ion_scalar.specs.text.laws.DecimalTails.{fraction_is, no_fraction}
use Rattle.ion_scalar.proofs.decimals.fraction_of.Goals as goal

pub returns-in-Some-clause-some : goal.returns-in-Some-clause-some
returns-in-Some-clause-some c =
    let os = c.args.octets.now in
    let d = c.digits_at-fraction.ensures in
    let e = rw (take_rest os c.digits_at-fraction.result.used) at c.in-Some.ensures.some in
    record {
      fraction = take c.digits_at-fraction.result.used os;
      exponent = e.0;
      is = fraction_is os c.digits_at-fraction.result.used _ _ _ d.digits e.1;
      coefficient = d.value;
      digits = d.count;
      bounded = e.2;
    }

pub returns-in-None-clause-none : goal.returns-in-None-clause-none
returns-in-None-clause-none c =
    let os = c.args.octets.now in
    let d = c.digits_at-fraction.ensures in
    let e = rw (take_rest os c.digits_at-fraction.result.used) at c.in-None.ensures.none in
    λ f float s n. no_fraction os c.digits_at-fraction.result.used f float s n d.digits d.none d.longest e
