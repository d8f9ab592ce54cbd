use Rattle.std.proofs.Common.{arith, length, length-drop, ap}
use Rattle.std.proofs.lemmas.List.{take_rest}
use Rattle.ion_tokens.proofs.runs.LobsAtOnce.{segments_then}
use Rattle.ion_tokens.proofs.lobs_at_once.clob_segments.Goals as goal

pub loop-at-preserved : goal.loop-at-preserved
loop-at-preserved c =
    let rest = take_rest c.args.octets.now c.loop-at.at in
    record {
      within = let same = ap length rest in let l = length-drop c.loop-at.at c.args.octets.now in let k = c.in_ok-at-2.ensures.within in omega arith;
      adds = segments_then c.args.octets.now _ _ _ _ c.loop-at.at c.in_ok-at-2.field-0 rest c.loop-at.invariant.adds c.in_ok-at-2.ensures.adds;
    }
