use Rattle.std.proofs.Common.{◌≡◌, ◌+◌, ◌-◌, ◌≤◌, None, length}
use Rattle.tests_rows.proofs.reading.take_pieces.Given as goal

abbrev pub invariant-loop-from : goal.invariant-loop-from
invariant-loop-from g l = record {
  from : l.from ≤ l.to;
  to : l.to ≤ length l.document;
  taken : g.I.Items.taken l.reader ≡ l.from;
  none : g.I.Items.awaits l.reader ≡ None;
}

abbrev pub decreases-loop-from : goal.decreases-loop-from
decreases-loop-from g l = (length l.document - l.from) + (length l.document - l.to)
