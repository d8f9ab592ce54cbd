use Rattle.std.proofs.Common.{get_or, arith}
use Rattle.ion.proofs.Snoc.{next_lines, next_octets, next_characters, passed_next}
use Rattle.ion.proofs.spot.Spot.pass.Goals as goal

pub loop-octet-preserved : goal.loop-octet-preserved
loop-octet-preserved c =
    let i = c.loop-octet.invariant in
    let s = c.loop-octet.self in
    let octet = get_or c.args.octets.now c.loop-octet.octet-index 0 in
    let l = i.lines in
    let o = i.octets in
    let h = i.characters in
    rw c.next.ensures (record {
      lines = omega (arith, l, next_lines s octet);
      octets = omega (arith, o, next_octets s octet);
      characters = omega (arith, h, next_characters s octet);
      passed = λ before e. passed_next before c.args.octets.now c.loop-octet.octet-index s c.loop-octet-test.true (i.passed before e);
    })
