use Rattle.std.proofs.Common.{◌++◌, List, length}
use Rattle.ion_binary.specs.Names.{Frame, IsBehind, Moves, Value, deliver, events_of, setting_of, spot_of}
use Rattle.ion_binary.specs.walking.Holds.{told_in}
use Rattle.ion_binary.proofs.Ending.{IsLeft}
use Rattle.ion_binary.proofs.walking.BinaryWalk.containers_end.Given as goal

-- What is left to do gives what the whole was to give.
abbrev pub invariant-loop-container : goal.invariant-loop-container
invariant-loop-container g l = record {
  left : (fs : List Frame) (v : Value) → IsBehind l.fn.self fs v →
      IsLeft g.V.Visitor.takes (deliver (setting_of l.fn.self) (spot_of l.fn.self) fs v) (told_in fs ++ events_of v) l.initial.visitor l.self l.visitor;
  moves : Moves l.fn.self l.self l.fn.self.used;
}

abbrev pub decreases-loop-container : goal.decreases-loop-container
decreases-loop-container g l = length l.self.frames.items
