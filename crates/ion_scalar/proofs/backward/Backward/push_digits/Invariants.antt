use Rattle.std.proofs.Common.{◌≡◌, ◌<◌, ◌≤◌, ◌^◌, ◌++◌, drop, length}
use Rattle.std.specs.Int.Digits.{digits_of}
use Rattle.ion_scalar.specs.Names.{ROOM}
use Rattle.ion_scalar.proofs.backward.Backward.push_digits.Given as goal

abbrev pub invariant-loop-rest : goal.invariant-loop-rest
invariant-loop-rest l = record {
  within : l.start ≤ ROOM;
  size : length l.self-inside.octets ≡ ROOM;
  room : l.rest < l.base ^ l.start;
  digits : digits_of l.base l.rest ++ drop l.start l.self-inside.octets ≡ digits_of l.base l.value ++ l.fn.self;
}

abbrev pub decreases-loop-rest : goal.decreases-loop-rest
decreases-loop-rest l = l.rest
