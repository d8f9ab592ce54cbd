use Rattle.std.proofs.Common.{◌≡◌, ◌-◌, ◌/◌, ◌<◌, ◌≤◌, ◌^◌, ◌++◌, drop, length}
use Rattle.std.specs.Int.Digits.{digits_of}
use Rattle.ion_scalar.specs.Names.{ROOM, signed_digits}
use Rattle.ion_scalar.proofs.backward.Backward.push_signed.Given as goal

abbrev pub invariant-loop-rest : goal.invariant-loop-rest
invariant-loop-rest l = record {
  within : (1 ≤ l.start) × (l.start ≤ ROOM);
  size : length l.self-inside.octets ≡ ROOM;
  room : l.rest < l.base ^ (l.start - 1);
  digits : signed_digits (l.base / 2) l.negative (digits_of l.base l.rest) ++ drop l.start l.self-inside.octets
      ≡ signed_digits (l.base / 2) l.negative (digits_of l.base l.value) ++ l.fn.self;
}

abbrev pub decreases-loop-rest : goal.decreases-loop-rest
decreases-loop-rest l = l.rest
