use Rattle.std.proofs.Common.{ℕ, Bool, true, false, cond, eqb, not, T, sym, subst, arith}
use Rattle.std.specs.Prelude.{◌&&◌, ◌||◌, ◌==◌, nat_le}
use Rattle.std.proofs.lemmas.Simd.{zip2_splat, zip2_of_maps, splat_is_map}
use lib.Bits.{bit_or}
use lib.Lanes.{top}
use Rattle.ion_tokens.specs.Names.{stands}
use Rattle.ion_tokens.proofs.masks.ByOctet.{holds_below, same}
use Rattle.ion_tokens.proofs.masks.LaneMasks.{below, is, lane_minus, masked_by}
use Rattle.ion_tokens.proofs.lanes.raw_ends.Goals as goal

-- what the operations say of an octet, which is the quote or not
said : ℕ → Bool → ℕ → ℕ
said line_end quote x =
    bit_or (bit_or (bit_or (bit_or (below x 9) (is x line_end)) (below (lane_minus x 13) 19)) (is x 92)) (cond quote 255 0)

-- and what it is
ends : Bool → Bool → ℕ → Bool
ends long quote x = not ((stands x || (long && (x == 10)) || nat_le 128 x) && not ((x == 92) || quote))

agree : (long quote : Bool) → T (holds_below (λ x. same (top 7 (said (cond long 92 10) quote x)) (ends long quote x)) 256)
unfolding said ends
agree true true = tt
agree true false = tt
agree false true = tt
agree false false = tt

pub returns : goal.returns
unfolding said ends
returns c =
    let v = c.args.octets in
    let long = c.fits-octets.0 in
    let quote = c.args.quote in
    let line_end = c.line_end-line_end.result in
    let all = subst (λ e. (b : Bool) → T (holds_below (λ x. same (top 7 (said e b x)) (ends c.args.long b x)) 256)) (sym c.line_end-line_end.ensures)
    (agree c.args.long) in
    masked_by (λ x. eqb x quote) (said line_end) (ends c.args.long) all v _ (omega arith) c.fits-octets.1
    (zip2_of_maps bit_or _ _ v (zip2_of_maps bit_or _ _ v (zip2_of_maps bit_or _ _ v (zip2_of_maps bit_or _ _ v
    (zip2_splat below v 16 9 long)
    (zip2_splat is v 16 line_end long))
    (zip2_of_maps below (λ x. lane_minus x 13) (λ _. 19) v (zip2_splat lane_minus v 16 13 long) (splat_is_map v 16 19 long)))
    (zip2_splat is v 16 92 long))
    (zip2_splat is v 16 quote long))
