use Rattle.std.proofs.Common.{arith, length, length-drop, ap}
use Rattle.std.proofs.lemmas.List.{take_rest}
use Rattle.ion_tokens.proofs.runs.LobsAtOnce.{none_adds, adds_then}
use Rattle.ion_tokens.proofs.lobs_at_once.before_brace.Goals as goal

pub loop-at-init : goal.loop-at-init
loop-at-init c = record { within = omega arith; adds = none_adds c.args.kept.now.items }

pub loop-at-preserved : goal.loop-at-preserved
loop-at-preserved c =
    let rest = take_rest c.args.octets.now c.loop-at.at in
    record {
      within = let same = ap length rest in let l = length-drop c.loop-at.at c.args.octets.now in let k = c.in_ok-at.ensures.within in omega arith;
      adds = adds_then c.args.octets.now _ _ _ _ c.loop-at.at c.in_ok-at.field-0 rest c.loop-at.invariant.adds c.in_ok-at.ensures.adds;
    }
