use Rattle.std.proofs.Common.{◌≡◌, ◌+◌, ◌-◌, ◌++◌, length}
use Rattle.ion_scalar.specs.Names.{padded}
use Rattle.ion_scalar.proofs.text.padded_before.Given as goal

abbrev pub invariant-loop : goal.invariant-loop
invariant-loop l = record {
  place : length l.octets ≡ length l.fn.octets + l.counter;
  text : padded (l.digits - l.counter) l.rest ++ l.octets ≡ padded l.digits l.value ++ l.fn.octets;
}
