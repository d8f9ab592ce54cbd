use Rattle.std.proofs.Common.{true, not, arith}
use Rattle.std.proofs.lemmas.Simd.{zip2_splat, zip2_of_maps, splat_is_map}
use Rattle.ion_tokens.specs.Names.{is_digit}
use Rattle.ion_tokens.proofs.masks.LaneMasks.{at_most, lane_minus, masked_by}
use Rattle.ion_tokens.proofs.lanes.digit_ends.Goals as goal

pub returns : goal.returns
returns c =
    let v = c.args.octets in
    let long = c.fits-octets.0 in
    masked_by (λ _. true) (λ _ x. at_most 10 (lane_minus x 48)) (λ _ x. not (is_digit x)) (λ _. tt) v _ (omega arith) c.fits-octets.1
    (zip2_of_maps at_most (λ _. 10) (λ x. lane_minus x 48) v (splat_is_map v 16 10 long) (zip2_splat lane_minus v 16 48 long))
