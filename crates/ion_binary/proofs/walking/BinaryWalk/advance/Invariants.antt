use Rattle.std.proofs.Common.{◌≡◌, ◌+◌, ◌-◌, ◌≤◌, List, length}
use Rattle.ion_binary.specs.Names.{Frame, Holds, SameSetting}
use Rattle.ion_binary.proofs.WalkRuns.{LedOn}
use Rattle.ion_binary.proofs.walking.BinaryWalk.advance.Given as goal

abbrev pub invariant-loop-i : goal.invariant-loop-i
invariant-loop-i g l = record {
  i : l.i ≤ length l.piece;
  ran : (fs : List Frame) → Holds l.fn.self fs → LedOn g.V.Visitor.takes l.fn.self fs l.piece l.i l.self l.initial.visitor l.visitor;
  used : l.self.used ≡ l.fn.self.used + l.i;
  setting : SameSetting l.fn.self l.self;
}

abbrev pub decreases-loop-i : goal.decreases-loop-i
decreases-loop-i g l = length l.piece - l.i
