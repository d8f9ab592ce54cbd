use Rattle.std.proofs.Common.{◌-◌, ◌≤◌}
use Rattle.ion_scalar.specs.text.laws.ShortNumbers.{PlainRun}
use Rattle.ion_scalar.proofs.plain_number.known_digits.Given as goal

abbrev pub invariant-loop-used : goal.invariant-loop-used
invariant-loop-used l = record {
  few : l.used ≤ l.count;
  run : PlainRun l.octets l.before l.used l.value;
}

abbrev pub decreases-loop-used : goal.decreases-loop-used
decreases-loop-used l = l.count - l.used
