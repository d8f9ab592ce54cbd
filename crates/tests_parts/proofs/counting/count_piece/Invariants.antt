use Rattle.std.proofs.Common.{◌≡◌, ◌+◌, ◌-◌, ◌*◌, ◌≤◌, length, None}
use Rattle.ion_tokens.specs.machine.Views.{scanned, failure}
use Rattle.ion_tokens.specs.machine.Bounds.{debt}
use Rattle.tests_parts.proofs.counting.count_piece.Given as goal

abbrev pub invariant-loop-at : goal.invariant-loop-at
invariant-loop-at l = record {
  going : failure l.scanner ≡ None;
  at : l.at ≤ length l.piece;
  used : (scanned l.scanner).used ≡ (scanned l.fn.scanner).used + l.at;
}

-- an octet that is left is used, or fewer may be taken up again
abbrev pub decreases-loop-at : goal.decreases-loop-at
decreases-loop-at l = 2 * (length l.piece - l.at) + debt (scanned l.scanner).mode
