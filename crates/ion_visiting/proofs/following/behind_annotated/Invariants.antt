use Rattle.std.proofs.Common.{ℕ, ◌≤◌}
use Rattle.ion_visiting.specs.Following.{Behind}
use Rattle.ion_visiting.proofs.following.behind_annotated.Given as goal

-- the value that began at the front ends where what is still to come of it does
abbrev pub invariant-loop : goal.invariant-loop
invariant-loop l = record {
  ends : (j : ℕ) → Behind l.tape l.from j → Behind l.tape l.at j;
  far : l.counter ≤ l.at;
}
