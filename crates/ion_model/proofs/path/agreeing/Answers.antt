use Rattle.std.proofs.Common.{arith, ◌<◌, ◌≡◌, true, length}
use Rattle.ion_model.specs.Names.{same}
use Rattle.ion_model.proofs.PartingLaws.{agree_more}
use Rattle.ion_model.proofs.path.agreeing.Goals as goal

pub loop-i-preserved : goal.loop-i-preserved
loop-i-preserved c =
    let within : c.loop-i.i < length c.args.ws.now = omega arith in
    let alike : same c.index-vs-i.result c.index-ws-i.result ≡ true = cc (c.in_ok-equivalent.ensures.same) in (
      omega arith,
      agree_more c.args.vs.now c.args.ws.now c.loop-i.i c.index-vs-i.result c.index-ws-i.result c.loop-i-test.true within c.index-vs-i.is
          c.index-ws-i.is alike c.loop-i.invariant.1,
    )
