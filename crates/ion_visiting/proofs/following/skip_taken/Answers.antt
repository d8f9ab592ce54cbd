use Rattle.std.proofs.Common.{◌≡◌, ◌%◌, arith}
use Rattle.ion_visiting.specs.Following.{none_skipped, one_skipped}
use Rattle.ion_visiting.proofs.following.skip_taken.Goals as goal

pub loop-init : goal.loop-init
loop-init c = none_skipped

pub loop-preserved : goal.loop-preserved
loop-preserved c =
    let is_taken : c.loop.taken % 2 ≡ 1 = omega (arith, c.if-taken-eq0.false) in
    one_skipped c.loop.free c.loop.taken c.behind_value-free.result c.loop.invariant c.in-Some.ensures.field is_taken
    c.behind_value-free.ensures
