use Rattle.std.proofs.Common.{◌≡◌, ℕ, ◌^◌}
use Rattle.ion_visiting.specs.Following.{Steps}
use Rattle.ion_visiting.proofs.following.seek.Given as goal

abbrev pub invariant-loop : goal.invariant-loop
invariant-loop l = record {
  k : ℕ;
  steps : Steps l.tape l.fn.frame.free l.fn.frame.taken k l.place l.others;
  bit : l.bit ≡ 2 ^ k;
}
