use Rattle.std.proofs.Common.{◌≡◌, ◌+◌, ◌-◌, ◌^◌, ◌≤◌, min, length, drop}
use Rattle.ion_tokens.specs.Names.{IsSteady, run}
use Rattle.ion_tokens.specs.machine.Machines.{known}
use Rattle.ion_tokens.proofs.machine.Machine.run.Given as goal

-- what is left of the piece leads where the whole piece leads
abbrev pub invariant-loop-at : goal.invariant-loop-at
invariant-loop-at l = record {
  within : l.at ≤ length l.piece;
  used : l.self.used ≡ l.fn.self.used + l.at;
  looked : l.self.looked ≡ min (l.fn.self.looked + l.at) (2 ^ 64 - 1);
  same : run l.place (drop l.at l.piece) (known l.self) ≡ run l.place l.piece (known l.fn.self);
  steady : IsSteady (known l.fn.self) l.fn.self.looked → IsSteady (known l.self) l.self.looked;
}

abbrev pub decreases-loop-at : goal.decreases-loop-at
decreases-loop-at l = length l.piece - l.at
