use Rattle.std.proofs.Common.{◌<◌, ◌≤◌, ◌-◌, length}
use Rattle.ion_symtab.specs.Names.{StartsBehind, StartsBy}
use Rattle.ion_symtab.proofs.segments.segment_of.Given as goal

abbrev pub invariant-loop-high : goal.invariant-loop-high
invariant-loop-high l = record {
  some : l.low < l.high;
  within : l.high ≤ length l.segments;
  starts : StartsBy l.place l.segments l.low;
  last : l.high < length l.segments → StartsBehind l.place l.segments l.high;
}

abbrev pub decreases-loop-high : goal.decreases-loop-high
decreases-loop-high l = l.high - l.low
