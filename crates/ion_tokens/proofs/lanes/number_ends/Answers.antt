use Rattle.std.proofs.Common.{ℕ, true, not, arith}
use Rattle.std.proofs.lemmas.Simd.{zip2_splat, zip2_of_maps, splat_is_map}
use lib.Bits.{bit_or}
use Rattle.ion_tokens.specs.Names.{is_numeric}
use Rattle.ion_tokens.proofs.masks.LaneMasks.{below, is, lane_minus, masked_by}
use Rattle.ion_tokens.proofs.lanes.number_ends.Goals as goal

-- what the operations say of an octet
said : ℕ → ℕ
said x =
    bit_or (bit_or (bit_or (bit_or (bit_or (bit_or (bit_or (is (bit_or x 32) 123) (is (bit_or x 32) 125)) (below (lane_minus x 39) 3))
    (below (lane_minus x 9) 5)) (is x 44)) (is x 47)) (is x 34)) (is x 32)

pub returns : goal.returns
unfolding said
returns c =
    let v = c.args.octets in
    let long = c.fits-octets.0 in
    let brace = zip2_splat bit_or v 16 32 long in
    masked_by (λ _. true) (λ _. said) (λ _ x. not (is_numeric x)) (λ _. tt) v _ (omega arith) c.fits-octets.1
    (zip2_of_maps bit_or _ _ v (zip2_of_maps bit_or _ _ v (zip2_of_maps bit_or _ _ v
    (zip2_of_maps bit_or _ _ v (zip2_of_maps bit_or _ _ v (zip2_of_maps bit_or _ _ v (zip2_of_maps bit_or _ _ v
    (zip2_of_maps is (λ x. bit_or x 32) (λ _. 123) v brace (splat_is_map v 16 123 long))
    (zip2_of_maps is (λ x. bit_or x 32) (λ _. 125) v brace (splat_is_map v 16 125 long)))
    (zip2_of_maps below (λ x. lane_minus x 39) (λ _. 3) v (zip2_splat lane_minus v 16 39 long) (splat_is_map v 16 3 long)))
    (zip2_of_maps below (λ x. lane_minus x 9) (λ _. 5) v (zip2_splat lane_minus v 16 9 long) (splat_is_map v 16 5 long)))
    (zip2_splat is v 16 44 long))
    (zip2_splat is v 16 47 long))
    (zip2_splat is v 16 34 long))
    (zip2_splat is v 16 32 long))
