use Rattle.std.proofs.Common.{ℕ, true, not, arith}
use Rattle.std.proofs.lemmas.Simd.{zip2_splat, zip2_of_maps, splat_is_map}
use lib.Bits.{bit_and, bit_or}
use Rattle.ion_tokens.specs.Names.{is_word_octet}
use Rattle.ion_tokens.proofs.masks.LaneMasks.{at_most, isnt, lane_minus, masked_by}
use Rattle.ion_tokens.proofs.lanes.word_ends.Goals as goal

-- what the operations say of an octet
said : ℕ → ℕ
said x = bit_and (bit_and (bit_and (at_most 26 (lane_minus (bit_or x 32) 97)) (at_most 10 (lane_minus x 48))) (isnt x 95)) (isnt x 36)

pub returns : goal.returns
unfolding said
returns c =
    let v = c.args.octets in
    let long = c.fits-octets.0 in
    masked_by (λ _. true) (λ _. said) (λ _ x. not (is_word_octet x)) (λ _. tt) v _ (omega arith) c.fits-octets.1
    (zip2_of_maps bit_and _ _ v (zip2_of_maps bit_and _ _ v (zip2_of_maps bit_and _ _ v
    (zip2_of_maps at_most (λ _. 26) (λ x. lane_minus (bit_or x 32) 97) v (splat_is_map v 16 26 long)
    (zip2_of_maps lane_minus (λ x. bit_or x 32) (λ _. 97) v (zip2_splat bit_or v 16 32 long) (splat_is_map v 16 97 long)))
    (zip2_of_maps at_most (λ _. 10) (λ x. lane_minus x 48) v (splat_is_map v 16 10 long) (zip2_splat lane_minus v 16 48 long)))
    (zip2_splat isnt v 16 95 long))
    (zip2_splat isnt v 16 36 long))
