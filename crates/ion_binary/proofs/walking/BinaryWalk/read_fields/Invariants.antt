use Rattle.std.proofs.Common.{◌≡◌, ◌+◌, ◌-◌, ◌≤◌, List, Some, length, take, drop, true}
use Rattle.std.specs.Option.{is_some, IfSome}
use Rattle.ion_binary.specs.Names.{Frame, HasName, Holds, InNumber, Purpose, SameSetting, fields_end, open_containers}
use Rattle.ion_binary.proofs.WalkRuns.{LedOn}
use Rattle.ion_binary.proofs.walking.BinaryWalk.read_fields.Given as goal

abbrev pub invariant-loop-next : goal.invariant-loop-next
invariant-loop-next g l = record {
  at : l.at ≤ length l.piece;
  ran : (fs : List Frame) → Holds l.fn.self fs → LedOn g.V.Visitor.takes l.fn.self fs l.piece l.at l.self l.initial.visitor l.visitor;
  used : l.self.used ≡ l.fn.self.used + l.at;
  setting : SameSetting l.fn.self l.self;
  phase : l.self.phase ≡ InNumber Purpose.FieldName 0;
  fields : Some l.end ≡ fields_end (open_containers l.self);
  next : IfSome l.next (λ name. HasName l.self (take (length l.piece - l.at) (drop l.at l.piece)) name.0 name.1);
  goes : l.at ≡ 0 → is_some l.next ≡ true;
}

abbrev pub decreases-loop-next : goal.decreases-loop-next
decreases-loop-next g l = length l.piece - l.at
