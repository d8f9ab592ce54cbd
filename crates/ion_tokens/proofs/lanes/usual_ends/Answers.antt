use Rattle.std.proofs.Common.{ℕ, Bool, true, false, cond, eqb, not, T, arith}
use Rattle.std.specs.Prelude.{◌&&◌, ◌||◌, ◌==◌, nat_le, nat_lt}
use Rattle.std.proofs.lemmas.Simd.{zip2_splat, zip2_of_maps, splat_is_map}
use lib.Bits.{bit_or}
use lib.Lanes.{top}
use Rattle.ion_tokens.proofs.masks.ByOctet.{holds_below, same}
use Rattle.ion_tokens.proofs.masks.LaneMasks.{at_most, is, lane_minus, masked_by}
use Rattle.ion_tokens.proofs.lanes.usual_ends.Goals as goal

-- what the operations say of an octet, which is the quote or not
said : Bool → ℕ → ℕ
said quote x = bit_or (bit_or (at_most 96 (lane_minus x 32)) (is x 92)) (cond quote 255 0)

-- and what it is
ends : Bool → ℕ → Bool
ends quote x = not ((nat_le 32 x && nat_lt x 128) && not ((x == 92) || quote))

agree : (quote : Bool) → T (holds_below (λ x. same (top 7 (said quote x)) (ends quote x)) 256)
unfolding said ends
agree true = tt
agree false = tt

pub returns : goal.returns
unfolding said ends
returns c =
    let v = c.args.octets in
    let long = c.fits-octets.0 in
    let quote = c.args.quote in
    masked_by (λ x. eqb x quote) said ends agree v _ (omega arith) c.fits-octets.1
    (zip2_of_maps bit_or _ _ v (zip2_of_maps bit_or _ _ v
    (zip2_of_maps at_most (λ _. 96) (λ x. lane_minus x 32) v (splat_is_map v 16 96 long) (zip2_splat lane_minus v 16 32 long))
    (zip2_splat is v 16 92 long))
    (zip2_splat is v 16 quote long))
