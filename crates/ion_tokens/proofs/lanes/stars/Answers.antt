use Rattle.std.proofs.Common.{true, not, arith}
use Rattle.std.proofs.lemmas.Simd.{zip2_splat}
use Rattle.ion_tokens.specs.Names.{Mode, goes_on}
use Rattle.ion_tokens.proofs.masks.LaneMasks.{is, masked_by}
use Rattle.ion_tokens.proofs.lanes.stars.Goals as goal

pub returns : goal.returns
returns c =
    let v = c.args.octets in
    masked_by (λ _. true) (λ _ x. is x 42) (λ _ x. not (goes_on Mode.BlockComment x)) (λ _. tt) v _ (omega arith) c.fits-octets.1
    (zip2_splat is v 16 42 c.fits-octets.0)
