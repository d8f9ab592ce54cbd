use Rattle.std.proofs.Common.{ℕ, Bool, true, false, cond, eqb, not, T, sym, subst, arith}
use Rattle.std.specs.Prelude.{◌&&◌, ◌==◌}
use Rattle.std.proofs.lemmas.Simd.{zip2_splat, zip2_splat_left, zip2_of_maps}
use lib.Bits.{bit_or}
use lib.Lanes.{top}
use Rattle.ion_text_writer.specs.Names.{stands_raw}
use Rattle.ion_tokens.proofs.masks.ByOctet.{holds_below, same}
use Rattle.ion_tokens.proofs.masks.LaneMasks.{below, is, masked_by}
use Rattle.ion_text_writer.proofs.escape.escaped_lanes.Goals as goal

-- what the operations say of an octet, which is the quote or not
said : ℕ → Bool → ℕ → ℕ
said greatest quote x =
    bit_or (bit_or (bit_or (bit_or (below x 32) (below greatest x)) (is x 127)) (is x 92)) (cond quote 255 0)

-- and what it is
escaped : Bool → Bool → ℕ → Bool
escaped ascii quote x = not (not (x == 92) && (not quote && stands_raw ascii x))

agree : (ascii quote : Bool) → T (holds_below (λ x. same (top 7 (said (cond ascii 127 255) quote x)) (escaped ascii quote x)) 256)
unfolding said escaped
agree true true = tt
agree true false = tt
agree false true = tt
agree false false = tt

pub returns : goal.returns
unfolding said escaped
returns c =
    let v = c.args.octets in
    let long = c.fits-octets.0 in
    let quotes = c.args.quotes in
    let greatest = c.greatest_raw-greatest.result in
    let all = subst (λ g. (b : Bool) → T (holds_below (λ x. same (top 7 (said g b x)) (escaped quotes.ascii b x)) 256)) (sym c.greatest_raw-greatest.ensures)
    (agree quotes.ascii) in
    masked_by (λ x. eqb x quotes.delimiter) (said greatest) (escaped quotes.ascii) all v _ (omega arith) c.fits-octets.1
    (zip2_of_maps bit_or _ _ v (zip2_of_maps bit_or _ _ v (zip2_of_maps bit_or _ _ v (zip2_of_maps bit_or _ _ v
    (zip2_splat below v 16 32 long)
    (zip2_splat_left below greatest 16 v long))
    (zip2_splat is v 16 127 long))
    (zip2_splat is v 16 92 long))
    (zip2_splat is v 16 quotes.delimiter long))
