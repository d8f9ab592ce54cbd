use Rattle.std.proofs.Common.{◌≡◌, ◌+◌, ◌-◌, ◌≤◌, List, None, length}
use Rattle.ion_text.specs.Names.{Frame, Holds, IsFine, StaysSteady, Symbols, scanned}
use Rattle.ion_text.specs.walk.Advances.{SameSettings}
use Rattle.ion_text.proofs.Advancing.{LedSo}
use Rattle.ion_text.proofs.walk.TextWalk.advance.Given as goal

abbrev pub invariant-loop-i : goal.invariant-loop-i
invariant-loop-i g l = record {
  i : l.i ≤ length l.piece;
  ran : (fs : List Frame) (ss : Symbols) → Holds l.fn.self fs ss → LedSo g.V.Visitor.takes fs ss l.fn.self l.self l.piece l.i l.fn.visitor l.visitor;
  used : (scanned l.self.scanner).used ≡ (scanned l.fn.self.scanner).used + l.i;
  none : l.self.awaited ≡ None;
  still : l.i ≡ 0 → (l.self.stage ≡ l.fn.self.stage) × (l.self.scanner ≡ l.fn.self.scanner);
  fine : IsFine l.self;
  steady : StaysSteady l.fn.self l.self;
  setting : SameSettings l.fn.self l.self;
}

abbrev pub decreases-loop-i : goal.decreases-loop-i
decreases-loop-i g l = length l.piece - l.i
