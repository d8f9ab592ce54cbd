use Rattle.std.proofs.Common.{arith}
use Rattle.ion_binary.specs.Names.{positional_more}
use Rattle.ion_binary.proofs.walking.unread.small_uint_of_any.Goals as goal

pub loop-octet-preserved : goal.loop-octet-preserved
loop-octet-preserved c =
    let more = positional_more 256 c.args.body.now c.loop-octet.octet-index c.loop-octet-test.true in
    record { so_far = omega arith }
