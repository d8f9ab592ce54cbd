use Rattle.std.proofs.Common.{ℕ, true, not, arith}
use Rattle.std.proofs.lemmas.Simd.{zip2_splat, zip2_of_maps, splat_is_map}
use lib.Bits.{bit_and, bit_or}
use Rattle.ion_tokens.specs.Names.{is_base64}
use Rattle.ion_tokens.proofs.masks.LaneMasks.{at_most, isnt, lane_minus, masked_by}
use Rattle.ion_tokens.proofs.lanes.base64_ends.Goals as goal

-- what the operations say of an octet
said : ℕ → ℕ
said x = bit_and (bit_and (bit_and (at_most 26 (lane_minus (bit_or x 32) 97)) (at_most 11 (lane_minus x 47))) (isnt x 43)) (isnt x 61)

pub returns : goal.returns
unfolding said
returns c =
    let v = c.args.octets in
    let long = c.fits-octets.0 in
    masked_by (λ _. true) (λ _. said) (λ _ x. not (is_base64 x)) (λ _. tt) v _ (omega arith) c.fits-octets.1
    (zip2_of_maps bit_and _ _ v (zip2_of_maps bit_and _ _ v (zip2_of_maps bit_and _ _ v
    (zip2_of_maps at_most (λ _. 26) (λ x. lane_minus (bit_or x 32) 97) v (splat_is_map v 16 26 long)
    (zip2_of_maps lane_minus (λ x. bit_or x 32) (λ _. 97) v (zip2_splat bit_or v 16 32 long) (splat_is_map v 16 97 long)))
    (zip2_of_maps at_most (λ _. 11) (λ x. lane_minus x 47) v (splat_is_map v 16 11 long) (zip2_splat lane_minus v 16 47 long)))
    (zip2_splat isnt v 16 43 long))
    (zip2_splat isnt v 16 61 long))
