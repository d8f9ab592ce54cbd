use Rattle.std.proofs.Common.{◌≡◌, ◌+◌, ◌-◌, ◌*◌, ◌/◌, ◌^◌, ◌<◌, length}
use Rattle.ion_scalar.specs.Names.{ROOM}
use Rattle.ion_scalar.proofs.DigitSteps.{Spells}
use Rattle.ion_scalar.proofs.backward.Backward.push_long_decimal.Given as goal

abbrev pub invariant-loop : goal.invariant-loop
invariant-loop l = record {
  place : l.start + length l.fn.self + l.counter ≡ ROOM;
  spells : Spells 39 l.value l.fn.self l.start (10 ^ (19 - l.counter) * (l.value / 10 ^ 19) + l.last) l.self-inside.octets;
  few : l.last < 10 ^ (19 - l.counter);
}
