use Rattle.std.proofs.Common.{◌≡◌, ℕ, ◌^◌, ◌<◌, take, get_or}
use Rattle.ion_scalar.specs.Names.{groups}
use Rattle.ion_scalar.proofs.fields.read_rest.Given as goal

abbrev pub invariant-loop-i : goal.invariant-loop-i
invariant-loop-i l = record {
  value : l.value ≡ groups l.front (take l.i l.octets);
  small : l.value < 2 ^ 63;
  before : (k : ℕ) → k < l.i → get_or l.octets k 0 < 128;
}
