use Rattle.std.proofs.Common.{◌≡◌, ◌∷◌, ◌^◌, ◌<◌, ◌+◌, take}
use Rattle.ion_scalar.specs.Names.{positional}
use Rattle.ion_scalar.proofs.fields.fold_few.Given as goal

abbrev pub invariant-loop-octet : goal.invariant-loop-octet
invariant-loop-octet l = record {
  value : l.value ≡ positional 256 (l.front ∷ take l.octet-index l.octets);
  small : l.value < 256 ^ (l.octet-index + 1);
}
