use Rattle.std.proofs.Common.{◌≡◌, pos, ◌-ℤ◌, arith, neg_ℤ, ap, ◌∙◌, FitsSigned, w16}
use Rattle.std.proofs.lemmas.Int.{ints, to_z-of_z}
use Rattle.ion_scalar.specs.Names.{local_minute, minutes_ahead}
use Rattle.ion_atoms.specs.laws.Timestamps.{local_minute-is}
use Rattle.ion_scalar.specs.binary.laws.Shifted.{moved_found}
use Rattle.ion_scalar.specs.binary.laws.Shown.{near_fits}
use Rattle.ion_scalar.specs.binary.laws.TimestampSpellings.{fraction_small, near_utc}
use Rattle.ion_scalar.proofs.timestamp_writer.utc_of.Goals as goal

pub returns-clause-value : goal.returns-clause-value
returns-clause-value c =
    let t = c.args.timestamp in
    let is = c.local-local.ensures.kept in
    let ahead = c.ahead_of_utc.result in
    let near = c.ahead_of_utc.ensures.near in
    let fits : FitsSigned w16 ahead = near_fits ahead near in
    let back : FitsSigned w16 (pos 0 -ℤ ahead) = near_fits (pos 0 -ℤ ahead) (omega (arith, ints, near.1), omega (arith, ints, near.0)) in
    let by : pos 0 -ℤ ahead ≡ neg_ℤ (minutes_ahead t.offset) = omega (arith, ints, c.ahead_of_utc.ensures.value ∙ ap minutes_ahead c.offset.ensures.value) in
    let m = simp to_z-of_z at c.in-Some.ensures.value in
    let n = rw (c.local-local.ensures.value, by) at m in
    let found = moved_found (local_minute t.local) c.in-Some.minute (neg_ℤ (minutes_ahead t.offset)) (local_minute-is t is) (near_utc t is) n.0 n.1 in
    λ i. record {
      minute = found i;
      second = (c.local-local.ensures.value i).second;
      fraction =
          (c.local-local.ensures.value i).fraction;
      precision = c.precision.ensures i;
    }

pub returns-clause-small : goal.returns-clause-small
returns-clause-small c = rw (c.local-local.ensures.value) (fraction_small c.args.timestamp c.local-local.ensures.kept)
