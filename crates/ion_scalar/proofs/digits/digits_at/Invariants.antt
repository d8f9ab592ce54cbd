use Rattle.std.proofs.Common.{◌<◌, ◌≤◌, ◌+◌, length, take, ◌-◌}
use Rattle.ion_scalar.specs.Names.{IsDigits}
use Rattle.ion_scalar.specs.text.laws.DigitRuns.{Place, Run}
use Rattle.ion_scalar.proofs.digits.digits_at.Given as goal

abbrev pub invariant-loop-digit : goal.invariant-loop-digit
invariant-loop-digit l = record {
  within : l.digits.used ≤ length l.octets;
  few : l.digits.count ≤ l.at;
  place : Place l.octets l.digits.used l.at;
  digits : 0 < l.digits.used → IsDigits l.base (take l.digits.used l.octets);
  run : Run l.base l.before (take l.digits.used l.octets) l.digits.value l.digits.count;
}

abbrev pub decreases-loop-digit : goal.decreases-loop-digit
decreases-loop-digit l = length l.initial.octets + 1 - l.at
