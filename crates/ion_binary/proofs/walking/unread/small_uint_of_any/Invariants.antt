use Rattle.std.proofs.Common.{◌≡◌, take}
use Rattle.ion_binary.specs.Names.{positional}
use Rattle.ion_binary.proofs.walking.unread.small_uint_of_any.Given as goal

abbrev pub invariant-loop-octet : goal.invariant-loop-octet
invariant-loop-octet l = record { so_far : l.number ≡ positional 256 (take l.octet-index l.body) }
