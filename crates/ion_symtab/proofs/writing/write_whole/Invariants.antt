use Rattle.std.proofs.Common.{◌≡◌, ◌-◌, ◌≤◌, false, take, length}
use Rattle.ion_symtab.specs.Took.{Took}
use Rattle.ion_symtab.proofs.writing.write_whole.Given as goal

abbrev pub invariant-loop-at : goal.invariant-loop-at
invariant-loop-at g l = record {
  within : l.at ≤ length l.octets;
  taken : Took g.W.Outlet.took g.W.Outlet.written l.initial.writer l.writer (take l.at l.octets);
  not_passed : g.W.Outlet.passed l.writer ≡ g.W.Outlet.passed l.initial.writer;
  no_write_failed : g.W.Outlet.has_failed l.initial.writer ≡ false → g.W.Outlet.has_failed l.writer ≡ false;
}

abbrev pub decreases-loop-at : goal.decreases-loop-at
decreases-loop-at g l = length l.octets - l.at
